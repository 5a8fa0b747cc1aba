mod Lines
mod Written
mod Stripped
