pub mod FreePei
pub mod FreeDxe
pub mod FreeBoots
