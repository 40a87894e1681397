-- Every number that a host is given fits 32 bits; two results of a contract are one.
pub mod AnswersFit
pub mod OneResult
