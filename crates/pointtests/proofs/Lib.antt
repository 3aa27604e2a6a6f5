pub mod PointTests
pub mod ByteTests
