mod AddedFile
mod Examples
mod Front
mod Pieces
