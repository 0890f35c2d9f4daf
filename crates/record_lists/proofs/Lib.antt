mod Finding
pub mod ReferencesFound
pub mod MethodReferences
pub mod ExtensionReferences
