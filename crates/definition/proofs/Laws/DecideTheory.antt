-- What each test of a sort and of a symbol decides, in the order in which code makes them.
use Rattle.std.specs.Prelude.{◌≡◌, true, false, List, map, ℕ, ◌+◌, ◌*◌, ◌<◌, ◌≤◌, length, drop}
use Rattle.std.proofs.Common.{◌∙◌, lt-ltb, le-ltb, le-leb}
use Rattle.std.proofs.lemmas.Bool.{lt-leb}
use Rattle.definition.specs.Test.{all, any, same}
use Rattle.definition.specs.Little.{le}
use Rattle.definition.specs.Pack.{prop, Symbol, Pack, with_sort, with_symbol}
use Rattle.definition.specs.Frame.{good, bad, over, ◌>>=◌, right}
use Rattle.definition.specs.Theory.{is_name, new_name, words, take_sort, is_sort, is_output, take_symbol}
use Rattle.definition.proofs.Laws.Decide.{pass_right, stop_right, pass_within, stop_within, and_yes, and_no_left, and_no_right, name_wrong, name_again, name_new, output_no}

-- a sort
module _ (P : Pack) (b : List ℕ) where
  -- no room
  pub sort-over : 256 ≤ length P.sorts → take_sort P b ≡ over
  unfolding take_sort
  sort-over h = stop_within _ _ (le-ltb _ _ h)

  module _ (few : length P.sorts < 256) where
    pub sort_misnamed : is_name b ≡ false → take_sort P b ≡ bad
    unfolding take_sort
    sort_misnamed e = pass_within _ _ (lt-ltb _ _ few) ∙ stop_right _ _ (name_wrong b P.sorts e)

    module _ (named : is_name b ≡ true) where
      pub sort_again : any (same b) P.sorts ≡ true → take_sort P b ≡ bad
      unfolding take_sort
      sort_again e = pass_within _ _ (lt-ltb _ _ few) ∙ stop_right _ _ (name_again b P.sorts e)

      pub sort-taken : any (same b) P.sorts ≡ false → take_sort P b ≡ good (with_sort P b)
      unfolding take_sort
      sort-taken e = pass_within _ _ (lt-ltb _ _ few) ∙ pass_right _ _ (name_new b P.sorts named e)

-- a symbol
module _ (P : Pack) (b : List ℕ) where
  -- no room
  pub symbol-over : 4096 ≤ length P.symbols → take_symbol P b ≡ over
  unfolding take_symbol
  symbol-over h = stop_within _ _ (le-ltb _ _ h)

  module _ (few : length P.symbols < 4096) where
    -- the fixed part is cut
    pub symbol_short : length b < 6 → take_symbol P b ≡ bad
    unfolding take_symbol
    symbol_short h = pass_within _ _ (lt-ltb _ _ few) ∙ stop_right _ _ (lt-leb _ _ h)

    module _ (long : 6 ≤ length b) where
      -- too many inputs
      pub symbol_wide : 16 < le 2 b 4 → take_symbol P b ≡ over
      unfolding take_symbol
      symbol_wide h = pass_within _ _ (lt-ltb _ _ few) ∙ pass_right _ _ (le-leb _ _ long) ∙ stop_within _ _ (lt-leb _ _ h)

      module _ (narrow : le 2 b 4 ≤ 16) where
        -- the inputs are cut
        pub symbol-length : length b < 6 + 4 * le 2 b 4 → take_symbol P b ≡ bad
        unfolding take_symbol
        symbol-length h =
            pass_within _ _ (lt-ltb _ _ few) ∙ pass_right _ _ (le-leb _ _ long) ∙ pass_within _ _ (le-leb _ _ narrow)
            ∙ stop_right _ _ (lt-leb _ _ h)

        module _ (whole : 6 + 4 * le 2 b 4 ≤ length b) where
          -- no output sort
          pub symbol_output : is_output P (le 4 b 0) ≡ false → take_symbol P b ≡ bad
          unfolding take_symbol
          symbol_output e =
              pass_within _ _ (lt-ltb _ _ few) ∙ pass_right _ _ (le-leb _ _ long) ∙ pass_within _ _ (le-leb _ _ narrow)
              ∙ pass_right _ _ (le-leb _ _ whole) ∙ stop_right _ _ (and_no_left (is_output P (le 4 b 0)) (all (is_sort P) (words (le 2 b 4) (drop 6 b))) e)

          -- the same by numbers
          pub symbol_outside : (le 4 b 0 ≡ prop → ⊥) → length P.sorts ≤ le 4 b 0 → take_symbol P b ≡ bad
          symbol_outside n h = symbol_output (output_no P (le 4 b 0) n h)

          module _ (output : is_output P (le 4 b 0) ≡ true) where
            -- an input of no sort
            pub symbol_input : all (is_sort P) (words (le 2 b 4) (drop 6 b)) ≡ false → take_symbol P b ≡ bad
            unfolding take_symbol
            symbol_input e =
                pass_within _ _ (lt-ltb _ _ few) ∙ pass_right _ _ (le-leb _ _ long) ∙ pass_within _ _ (le-leb _ _ narrow)
                ∙ pass_right _ _ (le-leb _ _ whole) ∙ stop_right _ _ (and_no_right (is_output P (le 4 b 0)) (all (is_sort P) (words (le 2 b 4) (drop 6 b))) e)

            module _ (inputs : all (is_sort P) (words (le 2 b 4) (drop 6 b)) ≡ true) where
              -- what is left to test: the name
              symbol-name : take_symbol P b ≡ right (new_name (drop (6 + 4 * le 2 b 4) b) (map (λ (y : Symbol). y.name) P.symbols))
                  >>= λ _. good (with_symbol P (record { output = le 4 b 0; inputs = words (le 2 b 4) (drop 6 b); name = drop (6 + 4 * le 2 b 4) b }))
              unfolding take_symbol
              symbol-name =
                  pass_within _ _ (lt-ltb _ _ few) ∙ pass_right _ _ (le-leb _ _ long) ∙ pass_within _ _ (le-leb _ _ narrow)
                  ∙ pass_right _ _ (le-leb _ _ whole) ∙ pass_right _ _ (and_yes (is_output P (le 4 b 0)) (all (is_sort P) (words (le 2 b 4) (drop 6 b))) output inputs)

              pub symbol_misnamed : is_name (drop (6 + 4 * le 2 b 4) b) ≡ false → take_symbol P b ≡ bad
              symbol_misnamed e = symbol-name ∙ stop_right _ _ (name_wrong _ _ e)

              module _ (named : is_name (drop (6 + 4 * le 2 b 4) b) ≡ true) where
                pub symbol_again : any (same (drop (6 + 4 * le 2 b 4) b)) (map (λ (y : Symbol). y.name) P.symbols) ≡ true → take_symbol P b ≡ bad
                symbol_again e = symbol-name ∙ stop_right _ _ (name_again _ _ e)

                pub symbol-taken : any (same (drop (6 + 4 * le 2 b 4) b)) (map (λ (y : Symbol). y.name) P.symbols) ≡ false
                    → take_symbol P b ≡ good (with_symbol P (record { output = le 4 b 0; inputs = words (le 2 b 4) (drop 6 b); name = drop (6 + 4 * le 2 b 4) b }))
                symbol-taken e = symbol-name ∙ pass_right _ _ (name_new _ _ named e)
