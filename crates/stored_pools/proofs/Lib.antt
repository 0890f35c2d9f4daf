mod Texts
mod Found
mod Changed
mod Linked
mod Makes
mod Refused
mod Again
