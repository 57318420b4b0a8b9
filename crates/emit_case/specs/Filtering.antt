-- The loop over a constructor's variables that keeps those of a sort.
use Rattle.std.specs.Prelude.{◌≡◌, refl, List, [], ◌∷◌, ◌++◌, ℕ, suc, ◌+◌, ◌*◌, ◌^◌, ◌≤◌, ◌<◌, length, get_or, set, take, drop}
use Rattle.std.proofs.Common.{sym, ap, ◌∙◌, append_assoc, append-nil, arith, eq-eqb, ne_eqb, length-set, drop_of_length-le, drop-cons, take-suc-set}
use Rattle.definition.specs.Pack.{Pack, most_arity, symbol_of}
use Rattle.pack_tables.specs.Catalog.{records_of}
use Rattle.pack_tables.specs.declared.catalog.Catalog.{Catalog}
use Rattle.pack_read.specs.Reads.{Reads}
use Rattle.pack_read.specs.Says.{Readable, OfPack, arity_read}
use Rattle.emission.specs.Induct.{recursive}
use Rattle.emit_state.specs.declared.places.Places.{Places}
use Rattle.emit_case.specs.Variables.{Filtering, Filters}

-- ---- on plain values
-- a variable of the sort is kept
kept : (sort s v : ℕ) (ss vs : List ℕ) → s ≡ sort → recursive sort (s ∷ ss) (v ∷ vs) ≡ v ∷ recursive sort ss vs
unfolding recursive
kept sort s v ss vs h = rw (eq-eqb s sort h, recursive)

-- another is not
passed : (sort s v : ℕ) (ss vs : List ℕ) → (s ≡ sort → ⊥) → recursive sort (s ∷ ss) (v ∷ vs) ≡ recursive sort ss vs
unfolding recursive
passed sort s v ss vs h = rw (ne_eqb s sort h, recursive)

-- of none, none is
of_none : (sort : ℕ) (ss : List ℕ) → recursive sort ss [] ≡ []
unfolding recursive
of_none sort [] = refl
of_none sort (s ∷ ss) = refl

-- a symbol has as many inputs in whatever pack the records are
same_arity : (bytes work : List ℕ) (k : Catalog) (c : ℕ) → c < length (records_of work k 1) → (P Q : Pack) → Reads bytes (records_of work k) P → Reads bytes (records_of work k) Q → length (symbol_of P c).inputs ≡ length (symbol_of Q c).inputs
same_arity bytes work k c h P Q R T = sym (arity_read bytes (records_of work k) P R c h) ∙ arity_read bytes (records_of work k) Q T c h

-- ---- the loop
-- of the first i variables those of the sort are the first `many` of rs, and what is left to do gives what the whole gives
pub record FilterGo (bytes work : List ℕ) (k : Catalog) (sort c : ℕ) (vs rs : List ℕ) (many i : ℕ) : Type 0 where
  pub fewer : many ≤ i
  pub upto : i ≤ length vs
  pub few : length vs ≤ most_arity
  pub room : length rs ≡ most_arity
  pub inputs : (P : Pack) → Reads bytes (records_of work k) P → length vs ≤ length (symbol_of P c).inputs
  pub left : (P : Pack) → Reads bytes (records_of work k) P → take many rs ++ recursive sort (drop i (symbol_of P c).inputs) (drop i vs) ≡ recursive sort (symbol_of P c).inputs vs

-- none is kept yet
pub filter_go : (bytes work : List ℕ) (l : Places) (sort c : ℕ) (vs rs : List ℕ) → Filtering bytes work l c vs rs → FilterGo bytes work l.hand.catalog sort c vs rs 0 0
filter_go bytes work l sort c vs rs F = record {
  fewer = omega arith;
  upto = omega arith;
  few = F.few;
  room = F.room;
  inputs = λ P R. omega (arith, F.many, same_arity bytes work l.hand.catalog c F.symbol P F.readable.pack R F.readable.reads);
  left = λ P R. refl;
}

module _ (bytes work : List ℕ) (k : Catalog) (sort c : ℕ) (vs rs : List ℕ) (many i : ℕ) (G : FilterGo bytes work k sort c vs rs many i) where
  module _ (h : i < length vs) where
    -- places are few
    pub few_bytes : i * 4 < 2 ^ 64
    few_bytes = omega (arith, G.few)

    pub few_kept : many * 4 < 2 ^ 64
    few_kept = omega (arith, G.few, G.fewer)

    pub few_more : i + 1 < 2 ^ 64
    few_more = omega (arith, G.few)

    pub more-kept : many + 1 < 2 ^ 64
    more-kept = omega (arith, G.few, G.fewer)

    -- there is a place for one more
    pub kept-below : many < length rs
    kept-below = omega (arith, G.few, G.fewer, G.room)

    -- the next one's sort can be read
    pub sort-within : (R : Readable bytes work k) → i < length (symbol_of R.pack c).inputs
    sort-within R = omega (arith, G.inputs R.pack R.reads)

    module _ (s : ℕ) (N : OfPack bytes work k (λ P. get_or (symbol_of P c).inputs i 0) s) where
      -- what is left, with the next one in front
      here : (P : Pack) → Reads bytes (records_of work k) P
          → take many rs ++ recursive sort (s ∷ drop (suc i) (symbol_of P c).inputs) (get_or vs i 0 ∷ drop (suc i) vs) ≡ recursive sort (symbol_of P c).inputs vs
      here P R =
          let ss = (symbol_of P c).inputs in
          let a : drop i ss ≡ s ∷ drop (suc i) ss = drop-cons ss i 0 (omega (arith, G.inputs P R)) ∙ ap (λ (z : ℕ). z ∷ drop (suc i) ss) (sym (N P R)) in
          sym (ap (λ (zs : List ℕ). take many rs ++ recursive sort zs (get_or vs i 0 ∷ drop (suc i) vs)) a) ∙ sym (ap (λ (zs : List ℕ). take many rs ++ recursive sort (drop i ss) zs) (drop-cons vs i 0 h)) ∙ G.left P R

      -- it is kept
      pub filter-keep : s ≡ sort → (rs' : List ℕ) (many' : ℕ) → rs' ≡ set rs many (get_or vs i 0) → many' ≡ many + 1 → FilterGo bytes work k sort c vs rs' many' (i + 1)
      filter-keep q rs' many' a b =
          let v = get_or vs i 0 in
          let j : i + 1 ≡ suc i = omega arith in
          let m : many' ≡ suc many = omega arith in
          let t : take many' rs' ≡ take many rs ++ (v ∷ []) = ap (λ (n : ℕ). take n rs') m ∙ ap (λ (zs : List ℕ). take (suc many) zs) a ∙ take-suc-set rs many v kept-below in
          record {
            fewer = omega (arith, G.fewer);
            upto = omega arith;
            few = G.few;
            room = ap length a ∙ length-set rs many v ∙ G.room;
            inputs = G.inputs;
            left = λ P R.
                let ss = (symbol_of P c).inputs in
                ap (λ (n : ℕ). take many' rs' ++ recursive sort (drop n ss) (drop n vs)) j
                ∙ ap (λ (zs : List ℕ). zs ++ recursive sort (drop (suc i) ss) (drop (suc i) vs)) t
                ∙ append_assoc (take many rs) (v ∷ []) (recursive sort (drop (suc i) ss) (drop (suc i) vs))
                ∙ ap (λ (zs : List ℕ). take many rs ++ zs) (sym (kept sort s v (drop (suc i) ss) (drop (suc i) vs) q))
                ∙ here P R;
          }

      -- it is not
      pub filter_pass : (s ≡ sort → ⊥) → (rs' : List ℕ) (many' : ℕ) → rs' ≡ rs → many' ≡ many → FilterGo bytes work k sort c vs rs' many' (i + 1)
      filter_pass q rs' many' a b =
          let j : i + 1 ≡ suc i = omega arith in
          let t : take many' rs' ≡ take many rs = ap (λ (n : ℕ). take n rs') b ∙ ap (λ (zs : List ℕ). take many zs) a in
          record {
            fewer = omega (arith, G.fewer);
            upto = omega arith;
            few = G.few;
            room = ap length a ∙ G.room;
            inputs = G.inputs;
            left = λ P R.
                let ss = (symbol_of P c).inputs in
                ap (λ (n : ℕ). take many' rs' ++ recursive sort (drop n ss) (drop n vs)) j
                ∙ ap (λ (zs : List ℕ). zs ++ recursive sort (drop (suc i) ss) (drop (suc i) vs)) t
                ∙ ap (λ (zs : List ℕ). take many rs ++ zs) (sym (passed sort s (get_or vs i 0) (drop (suc i) ss) (drop (suc i) vs) q))
                ∙ here P R;
          }

-- all were looked at
pub filter-end : (bytes work : List ℕ) (l : Places) (sort c : ℕ) (vs rs : List ℕ) (many i : ℕ) → FilterGo bytes work l.hand.catalog sort c vs rs many i → length vs ≤ i → Filters bytes work l sort c vs rs many
filter-end bytes work l sort c vs rs many i G h = record {
  few = omega (arith, G.few, G.fewer, G.upto);
  listed = λ P R.
      sym (append-nil (take many rs)) ∙ ap (λ (zs : List ℕ). take many rs ++ zs) (sym (ap (λ (zs : List ℕ). recursive sort (drop i (symbol_of P c).inputs) zs) (drop_of_length-le vs h) ∙ of_none sort (drop i (symbol_of P c).inputs))) ∙ G.left P R;
}
