pub mod AsciiLemmas
pub mod HighLemmas
pub mod RecordAscii
pub mod ReportAscii
pub mod PrintedAscii
pub mod SpellLemmas
pub mod ItemLemmas
pub mod ReadableLaw
