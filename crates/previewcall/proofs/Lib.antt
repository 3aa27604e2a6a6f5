pub mod Previews
pub mod RunsWithPreviews
