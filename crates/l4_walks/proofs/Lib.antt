mod Choosing
mod Comings
mod Picks
mod Resting
