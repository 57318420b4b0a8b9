-- The words that are left when all classes are made: those of the classes, and those of the patterns.
use Rattle.std.specs.Prelude.{◌≡◌, ℕ, ◌≤◌, length}
use Rattle.std.proofs.Math.Path.{ap, ap₂}
use Rattle.std.proofs.Common.{◌∙◌, arith}
use mathlib.Core.List.{List, ◌++◌}
use Rattle.std.proofs.Math.ListN.{take}
use Rattle.std.proofs.Math.Seq.{take-add}
use Rattle.definition.specs.Pack.{Pack}
use Rattle.definition.specs.Store.{pattern_words}
use Rattle.definition.specs.Classes.{Built, class_words}
use Rattle.base.specs.Part.{part}
use Rattle.store.specs.Words.{begins_take, begins_long}
use Rattle.store.specs.Stored.{nodes}
use Rattle.memo.specs.declared.memo.Memo.{Memo}
use Rattle.store.specs.declared.nodes.Store.{Store}
use Rattle.pack_tables.specs.declared.catalog.Catalog.{Catalog}
use Rattle.class_keys.specs.declared.classes.Keying.{Keying}
use Rattle.class_keys.specs.declared.classes.Counts.{Counts}
use Rattle.class_premises.specs.declared.layout.Layout.{Layout}
use Rattle.class_premises.specs.RowWords.{width}
use Rattle.class_premises.specs.Standing.{Standing, standing_keyed}

module _ (bytes work class words cells : List ℕ) (c : Catalog) (k : Keying) (l : Layout) (r : Counts) (st : Store) (memo : Memo) (fill : ℕ) (P : Pack) (b : Built)
    (S : Standing bytes work class words cells c k l r st memo fill P b) where
  -- the class words stand in front of the fill
  pub class_words_law : take fill class ≡ class_words P b
  unfolding class_words part
  class_words_law =
      ap (λ (n : ℕ). take n class) S.rows.filled
      ∙ take-add (length P.steps) (width b.classes) class
      ∙ ap₂ ◌++◌ (standing_keyed bytes work class words cells c k l r st memo fill P b S).words S.rows.words

  pub class_fits : fill ≤ length class
  class_fits = S.rows.fits

  -- the pattern words in front of the words used
  pub pattern_words_law : take st.used words ≡ pattern_words b.store
  pattern_words_law =
      let p = S.lifts.laid.index.placed in
      ap (λ (n : ℕ). take n words) p.used ∙ begins_take (nodes words st) words p.begins ∙ ap pattern_words S.store

  pub pattern_fits : st.used ≤ length words
  pattern_fits = let p = S.lifts.laid.index.placed in omega (arith, p.used, begins_long (nodes words st) words p.begins)
