mod Fronts
mod Texts
