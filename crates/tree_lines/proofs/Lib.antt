mod Examples
mod FieldsSoFar
mod Placed
mod Printed
mod WithFields
