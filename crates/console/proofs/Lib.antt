mod Values
mod Folding
mod Spaces
mod Spelling
