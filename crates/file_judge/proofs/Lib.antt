pub mod DueLemmas
pub mod JournalLemmas
pub mod JudgeLemmas
pub mod NamesAre
pub mod OneVerdict
pub mod VerdictLemmas
