mod Totals
mod Walks
