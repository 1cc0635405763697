mod Makers
mod MapPut
mod PlainReady
mod Few
mod LineTokens
