pub mod RemapLemmas
