pub mod ColumnsLemmas
