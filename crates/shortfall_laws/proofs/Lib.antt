mod Fronts
mod Fewest
