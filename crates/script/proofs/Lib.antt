mod Escaping
mod Quoting
mod Spaces
