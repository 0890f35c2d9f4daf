pub mod BytesText
