mod Pairs
mod ParamLaws
mod ParamReads
mod Lists
