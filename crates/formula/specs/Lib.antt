pub mod Grammar
pub mod Reader
pub mod Reading
pub mod Internal
