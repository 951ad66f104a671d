pub mod Common
pub mod CommandLines
pub mod CommandExamples
pub mod SubcommandWalks
pub mod SubcommandRows
pub mod SubcommandNames
