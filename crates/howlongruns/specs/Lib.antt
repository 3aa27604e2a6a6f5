pub mod BytesCoded
