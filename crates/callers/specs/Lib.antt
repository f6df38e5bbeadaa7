pub mod JoinedWords
pub mod Listed
