pub mod SelectedLemmas
pub mod ShownLemmas
