mod Totals
mod Used
