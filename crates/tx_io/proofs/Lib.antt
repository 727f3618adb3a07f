mod Fronts
mod Appending
