pub mod MemberLemmas
pub mod NamesLemmas
pub mod TableLemmas
pub mod FlagLemmas
pub mod CharacterLemmas
pub mod ReaderLemmas
