pub mod Laws
mod Lent
