pub mod Surviving
mod Trees
