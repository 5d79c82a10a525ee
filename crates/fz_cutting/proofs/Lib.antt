mod Lists
mod Decided
