-- What taking up a symbol answers.
use Rattle.std.specs.Prelude.{Result, Ok, Err}
use Rattle.std.specs.Prelude.{◌≡◌, Bool, true, false, not, List, map, ℕ, ◌+◌, ◌*◌, ◌≤◌, ◌<◌, ltb, length, drop}
use Rattle.std.proofs.Common.{sym, ◌∙◌, arith, ne_eqb}
use Rattle.std.proofs.Math.Path.{ap}
use Rattle.definition.specs.Test.{all}
use Rattle.definition.specs.Little.{le}
use Rattle.definition.specs.Pack.{prop, Pack, Symbol, with_symbol}
use Rattle.definition.specs.Frame.{good, bad, over}
use Rattle.definition.specs.Theory.{is_name, words, is_sort, is_output, take_symbol}
use Rattle.definition.proofs.Laws.Decide.{sorts-all, output_prop}
use Rattle.definition.proofs.Laws.DecideTheory.{symbol-over, symbol_short, symbol_wide, symbol-length, symbol_output, symbol_input, symbol_misnamed, symbol_again, symbol-taken}
use Rattle.pack_tables.specs.Place.{Place, key_at, body_at}
use Rattle.pack_tables.specs.Catalog.{records_of, EnteringIn, EntersIn}
use Rattle.pack_tables.specs.declared.region.Entered.TheVariants.{New, Old}
use Rattle.pack_tables.specs.declared.catalog.Catalog.{Catalog}
use Rattle.pack_read.specs.Body.{symbol_in}
use Rattle.pack_read.specs.Reads.{Reads, SymbolForm, length-sorts, length_symbols, read_symbol}
use Rattle.pack_tables.specs.Name.{denied, not_denied}
use Rattle.pack_reader.specs.Taking.{Reading, Whole, behind, Takes, body-at, key-at, may_enter, entered_takes, refused-takes, Names, names_there, names_not_there}
use Rattle.pack_reader.specs.Named.{listed_names}
use Rattle.pack_reader.specs.declared.taken.Fault.{Fault}
use Rattle.pack_reader.specs.declared.taken.Fault.TheVariants.{Bad, Over}

-- ---- an output sort, by the number of sorts
abbrev pub OutputOf : ℕ → ℕ → Bool → Type 0
OutputOf sorts s r = (P : Pack) → length P.sorts ≡ sorts → r ≡ is_output P s

pub output_mark : (sorts s : ℕ) → s ≡ prop → OutputOf sorts s true
output_mark sorts s e P l = sym (output_prop P s e)

pub output_unmarked : (sorts s : ℕ) → (s ≡ prop → ⊥) → OutputOf sorts s (ltb s sorts)
unfolding is_output
output_unmarked sorts s n P l = rw (ne_eqb s prop n, is_output) (ap (ltb s) (sym l))

-- ---- the form of a body, by the number of sorts
-- all is good but for the name, which starts at n and may be taken
pub record Formed (body : List ℕ) (sorts n : ℕ) : Type 0 where
  pub long : 6 ≤ length body
  pub narrow : le 2 body 4 ≤ 16
  pub whole : 6 + 4 * le 2 body 4 ≤ length body
  pub start : n ≡ 6 + 4 * le 2 body 4
  pub output : (P : Pack) → length P.sorts ≡ sorts → is_output P (le 4 body 0) ≡ true
  pub inputs : (P : Pack) → length P.sorts ≡ sorts → all (is_sort P) (words (le 2 body 4) (drop 6 body)) ≡ true
  pub named : is_name (drop (6 + 4 * le 2 body 4) body) ≡ true

abbrev pub Shapes : List ℕ → ℕ → Result ℕ Fault → Type 0
Shapes body sorts (Ok n) = Formed body sorts n
Shapes body sorts (Err Bad) = (P : Pack) → length P.sorts ≡ sorts → length P.symbols < 4096 → take_symbol P body ≡ bad
Shapes body sorts (Err Over) = (P : Pack) → length P.sorts ≡ sorts → length P.symbols < 4096 → take_symbol P body ≡ over

module _ (body : List ℕ) (sorts : ℕ) where
  -- the fixed part is cut
  pub short_symbol : length body < 6 → Shapes body sorts (Err Bad)
  short_symbol h P l few = symbol_short P body few h

  module _ (long : 6 ≤ length body) (a : ℕ) (arity : a ≡ le 2 body 4) where
    -- too many inputs
    pub wide_symbol : 16 < a → Shapes body sorts (Err Over)
    wide_symbol h P l few = symbol_wide P body few long (omega (arith, arity))

    module _ (few_inputs : a ≤ 16) where
      narrow : le 2 body 4 ≤ 16
      narrow = omega (arith, arity)

      -- the inputs are cut
      pub cut-symbol : length body < 6 + 4 * a → Shapes body sorts (Err Bad)
      cut-symbol h P l few = symbol-length P body few long narrow (omega (arith, arity))

      module _ (room : 6 + 4 * a ≤ length body) where
        whole : 6 + 4 * le 2 body 4 ≤ length body
        whole = omega (arith, arity)

        -- no output sort
        pub outless_symbol : (b : Bool) → OutputOf sorts (le 4 body 0) b → not b ≡ true → Shapes body sorts (Err Bad)
        outless_symbol b o n P l few = symbol_output P body few long narrow whole (denied b _ (o P l) n)

        module _ (b : Bool) (is-out : OutputOf sorts (le 4 body 0) b) (not-out : not b ≡ false) where
          output : (P : Pack) → length P.sorts ≡ sorts → is_output P (le 4 body 0) ≡ true
          output P l = not_denied b _ (is-out P l) not-out

          -- the test of the inputs, in the definition's words
          inputs_are : (P : Pack) → length P.sorts ≡ sorts → all (λ w. ltb w sorts) (words a (drop 6 body)) ≡ all (is_sort P) (words (le 2 body 4) (drop 6 body))
          inputs_are P l = ap (λ (k : ℕ). all (λ w. ltb w k) (words a (drop 6 body))) (sym l) ∙ ap (λ (k : ℕ). all (λ w. ltb w (length P.sorts)) (words k (drop 6 body))) arity ∙ sym (sorts-all P _)

          -- an input of no sort
          pub inless_symbol : (d : Bool) → d ≡ all (λ w. ltb w sorts) (words a (drop 6 body)) → not d ≡ true → Shapes body sorts (Err Bad)
          inless_symbol d e n P l few = symbol_input P body few long narrow whole (output P l) (denied d _ (e ∙ inputs_are P l) n)

          module _ (d : Bool) (is-in : d ≡ all (λ w. ltb w sorts) (words a (drop 6 body))) (not_in : not d ≡ false) where
            inputs : (P : Pack) → length P.sorts ≡ sorts → all (is_sort P) (words (le 2 body 4) (drop 6 body)) ≡ true
            inputs P l = not_denied d _ (is-in ∙ inputs_are P l) not_in

            name_is : is_name (drop (6 + 4 * le 2 body 4) body) ≡ is_name (drop (6 + 4 * a) body)
            name_is = ap (λ (k : ℕ). is_name (drop (6 + 4 * k) body)) (sym arity)

            pub misnamed_symbol : is_name (drop (6 + 4 * a) body) ≡ false → Shapes body sorts (Err Bad)
            misnamed_symbol e P l few = symbol_misnamed P body few long narrow whole (output P l) (inputs P l) (name_is ∙ e)

            pub formed_symbol : is_name (drop (6 + 4 * a) body) ≡ true → Formed body sorts (6 + 4 * a)
            formed_symbol e = record { long = long; narrow = narrow; whole = whole; start = ap (λ (k : ℕ). 6 + 4 * k) arity; output = output; inputs = inputs; named = name_is ∙ e }

-- ---- the record
module _ (bytes work body : List ℕ) (c : Catalog) (at : ℕ) (R : Reading bytes work c at) (W : Whole bytes body at) where
  abbrev rs : ℕ → List Place
  rs = records_of work c

  names : (P : Pack) → Reads bytes rs P → Names bytes (map (λ (y : Symbol). y.name) P.symbols) (rs 1)
  names P r = listed_names bytes (λ p. symbol_in (body_at bytes p)) (SymbolForm bytes) (λ y. y.name) P.symbols (rs 1) (λ p F. F.1) r.symbols

  -- no room
  pub many-symbols : 4096 ≤ length (rs 1) → Takes bytes work work c 1 (behind at body) (λ P. take_symbol P body) (Err Over)
  many-symbols h P r = symbol-over P body (omega (arith, length_symbols bytes rs P r))

  module _ (room : length (rs 1) < 4096) (sorts : ℕ) (counted : sorts ≡ length (rs 0)) where
    few : (P : Pack) → Reads bytes rs P → length P.symbols < 4096
    few P r = omega (arith, length_symbols bytes rs P r)

    many : (P : Pack) → Reads bytes rs P → length P.sorts ≡ sorts
    many P r = length-sorts bytes rs P r ∙ sym counted

    pub wrong_symbol : Shapes body sorts (Err Bad) → Takes bytes work work c 1 (behind at body) (λ P. take_symbol P body) (Err Bad)
    wrong_symbol S P r = S P (many P r) (few P r)

    pub over-symbol : Shapes body sorts (Err Over) → Takes bytes work work c 1 (behind at body) (λ P. take_symbol P body) (Err Over)
    over-symbol S P r = S P (many P r) (few P r)

    pub faulty-symbol : (f : Fault) → Shapes body sorts (Err f) → Takes bytes work work c 1 (behind at body) (λ P. take_symbol P body) (Err f)
    faulty-symbol Bad = wrong_symbol
    faulty-symbol Over = over-symbol

    module _ (n : ℕ) (F : Formed body sorts n) where
      abbrev place : Place
      place = record { at = at; from = at + 6 + n }

      abbrev name : List ℕ
      name = drop (6 + 4 * le 2 body 4) body

      body_is : body_at bytes place ≡ body
      body_is = body-at bytes body at (at + 6 + n) W

      key_is : key_at bytes place ≡ name
      key_is = key-at bytes body at n W (omega (arith, F.start, F.whole)) ∙ ap (λ (k : ℕ). drop k body) F.start

      symbol_is : symbol_in (body_at bytes place) ≡ record { output = le 4 body 0; inputs = words (le 2 body 4) (drop 6 body); name = name }
      unfolding symbol_in
      symbol_is = ap symbol_in body_is

      form : SymbolForm bytes place
      form = (rw body_is F.whole, key_is ∙ ap (λ (y : Symbol). y.name) (sym symbol_is), rw body_is F.narrow)

      -- the name starts inside the pack
      pub name_inside : at + 6 + n ≤ length bytes
      name_inside = omega (arith, F.start, F.whole, W.inside)

      pub enter_symbol : EnteringIn bytes work c 1 place
      enter_symbol = may_enter bytes work body c at 1 n R W (omega (arith, F.long)) (omega (arith, F.start, F.whole)) (omega arith) (λ h. omega arith)

      pub new-symbol : (work' : List ℕ) → EntersIn bytes work work' c 1 place New → Takes bytes work work' c 1 (behind at body) (λ P. take_symbol P body) (Ok tt)
      new-symbol work' =
          entered_takes bytes work work' c at (behind at body) 1 place (λ P. take_symbol P body) (λ P. with_symbol P (symbol_in (body_at bytes place))) R (omega (arith, F.long))
          (λ P r n. symbol-taken P body (few P r) F.long F.narrow F.whole (F.output P (many P r)) (F.inputs P (many P r)) F.named (names_not_there bytes _ (rs 1) name (names P r) (λ f. n (f.0, f.1, f.2 ∙ sym key_is))) ∙ ap (λ (y : Symbol). good (with_symbol P y)) (sym symbol_is))
          (λ P r M. read_symbol bytes rs (records_of work' c) P r place M form)

      pub old-symbol : (work' : List ℕ) → EntersIn bytes work work' c 1 place Old → Takes bytes work work' c 1 (behind at body) (λ P. take_symbol P body) (Err Bad)
      old-symbol work' =
          refused-takes bytes work work' c (behind at body) 1 place (λ P. take_symbol P body)
          (λ P r f. symbol_again P body (few P r) F.long F.narrow F.whole (F.output P (many P r)) (F.inputs P (many P r)) F.named (names_there bytes _ (rs 1) name (names P r) (f.0, f.1, f.2 ∙ key_is)))
