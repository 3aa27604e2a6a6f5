mod CellsRead
mod Packed
