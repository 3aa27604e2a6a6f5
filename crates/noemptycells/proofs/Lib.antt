pub mod NoEmptyCells
