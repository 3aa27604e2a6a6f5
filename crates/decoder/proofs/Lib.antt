mod Collecting
mod Division
mod Dividing
mod Quotient
