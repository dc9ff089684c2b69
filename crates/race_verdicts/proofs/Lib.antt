pub mod LuckLemmas
