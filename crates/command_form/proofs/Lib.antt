pub mod EndsLaws
pub mod FirstLaws
pub mod FitLemmas
pub mod HadLaws
pub mod TruthLaws
