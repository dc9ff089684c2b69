pub mod PicturedLemmas
