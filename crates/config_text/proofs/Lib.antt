mod Configs
mod Cuts
mod LinesOf
pub mod OnLiterals
mod PrintedConfigs
mod PrintedLines
mod PrintedSections
mod PrintedValues
pub mod Samples
mod Given
mod Spelling
mod Utf8
