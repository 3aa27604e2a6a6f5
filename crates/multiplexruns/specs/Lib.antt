pub mod SameStreams
