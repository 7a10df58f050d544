mod Objects
mod Members
mod Fields
mod Lines
mod Explaining
mod Escapes
mod ReasonNames
mod Sentences
