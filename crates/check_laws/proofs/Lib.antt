mod Whole
mod Accepted
mod Against
