mod Causes
mod ReadBack
mod ReadValues
mod Stopping
