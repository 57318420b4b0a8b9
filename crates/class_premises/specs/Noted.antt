-- The copies' variables as words: what is noted of them, and the loop over them.
use Rattle.std.specs.Prelude.{◌≡◌, refl, List, [], ◌∷◌, ◌++◌, length, set}
use Rattle.std.proofs.Common.{sym, ap, ap₂, ◌∙◌, append_assoc, append-nil, length-append, length-set, get_or-set_same}
use Prim.Native.Nat.{ℕ, zero, suc, ◌+◌, ◌-◌, ◌≤◌, ◌<◌}
use native.Mathlib.Omega.{arith}
use Rattle.std.proofs.Math.ListN.{get_or}
use Rattle.base.specs.Part.{part, part-more, part-set-behind}
use Rattle.base.specs.Outside.{Outside, outside_none, outside_set}

-- what words say: 0 nothing, else a node and one
unfoldable pub said : List ℕ → List ℕ
said [] = []
said (zero ∷ ws) = said ws
said (suc x ∷ ws) = x ∷ said ws

pub said-append : (xs ys : List ℕ) → said (xs ++ ys) ≡ said xs ++ said ys
unfolding said
said-append [] ys = refl
said-append (zero ∷ xs) ys = said-append xs ys
said-append (suc x ∷ xs) ys = ap (λ (l : List ℕ). x ∷ l) (said-append xs ys)

-- one word
pub record Noting (work : List ℕ) (from to noted : ℕ) : Type 0 where
  pub source : from < to
  pub room : 0 < get_or work from 0 → to + noted < length work
  pub inside : to + noted ≤ length work

-- what is noted then
abbrev pub NotesOne : List ℕ → List ℕ → ℕ → ℕ → ℕ → ℕ → Type 0
NotesOne work work' from to noted r = Outside (to + noted) (to + r) work work' × (part to r work' ≡ part to noted work ++ said (get_or work from 0 ∷ [])) × (r ≡ noted + length (said (get_or work from 0 ∷ [])))

-- there is room for as many as the words say
pub record Room (work : List ℕ) (from n to noted : ℕ) : Type 0 where
  pub ahead : from + n ≤ to
  pub room : to + noted + length (said (part from n work)) ≤ length work

-- what the words say stands behind what was noted before, and nothing else has changed
abbrev pub Notes : List ℕ → List ℕ → ℕ → ℕ → ℕ → ℕ → ℕ → Type 0
Notes work work' from n to noted r =
    Outside (to + noted) (to + r) work work' × (part to r work' ≡ part to noted work ++ said (part from n work)) × (r ≡ noted + length (said (part from n work)))

-- ---- one word
pub notes-none : (work : List ℕ) (from to noted : ℕ) → get_or work from 0 ≡ 0 → NotesOne work work from to noted noted
unfolding said
notes-none work from to noted e = (outside_none (to + noted) (to + noted) work, rw e (sym (append-nil (part to noted work))), rw e (omega arith))

pub notes-one : (work : List ℕ) (from to noted : ℕ) → 0 < get_or work from 0 → to + noted < length work → NotesOne work (set work (to + noted) (get_or work from 0 - 1)) from to noted (noted + 1)
unfolding said
notes-one work from to noted p room =
    let v : ℕ = get_or work from 0 - 1 in
    let e : get_or work from 0 ≡ suc v = omega arith in
    let after : List ℕ = set work (to + noted) v in (
      outside_set (to + noted) (to + (noted + 1)) work (to + noted) v (omega arith) (omega arith),
      part-more to noted after (omega (arith, length-set work (to + noted) v))
          ∙ ap₂ (λ (xs : List ℕ) (x : ℕ). xs ++ (x ∷ [])) (part-set-behind to noted work (to + noted) v (omega arith)) (get_or-set_same work (to + noted) v 0 room)
          ∙ ap (λ (xs : List ℕ). part to noted work ++ said xs) (ap (λ (x : ℕ). x ∷ []) (sym e)),
      ap (λ (x : ℕ). noted + length (said (x ∷ []))) (sym e),
    )

-- ---- the loop
-- k words are gone through
pub record Going (before work : List ℕ) (from n to noted k on : ℕ) : Type 0 where
  pub low : k ≤ n
  pub outside : Outside (to + noted) (to + on) before work
  pub list : part to on work ≡ part to noted before ++ said (part from k before)
  pub many : on ≡ noted + length (said (part from k before))

pub going_none : (work : List ℕ) (from n to noted : ℕ) → Going work work from n to noted 0 noted
unfolding said part
going_none work from n to noted = record { low = omega arith; outside = outside_none (to + noted) (to + noted) work; list = sym (append-nil (part to noted work)); many = omega arith }

-- more words say no less
said_more : (work : List ℕ) (from k : ℕ) → from + k < length work → said (part from (k + 1) work) ≡ said (part from k work) ++ said (get_or work (from + k) 0 ∷ [])
said_more work from k h = ap said (part-more from k work h) ∙ said-append (part from k work) (get_or work (from + k) 0 ∷ [])

said-most : (work : List ℕ) (from k j : ℕ) → from + (k + j) ≤ length work → length (said (part from k work)) ≤ length (said (part from (k + j) work))
said-most work from k zero h = let e : k + 0 ≡ k = omega arith in rw e (omega arith)
said-most work from k (suc j) h =
    let ih = said-most work from k j (omega arith) in
    let e : k + suc j ≡ k + j + 1 = omega arith in
    let m = ap length (said_more work from (k + j) (omega arith)) ∙ length-append (said (part from (k + j) work)) (said (get_or work (from + (k + j)) 0 ∷ [])) in
    rw e (omega arith)

module _ (before : List ℕ) (from n to noted : ℕ) (R : Room before from n to noted) (work : List ℕ) (k on : ℕ) (G : Going before work from n to noted k on) (more : k < n) where
  -- the word is the one that stood there
  word_kept : get_or work (from + k) 0 ≡ get_or before (from + k) 0
  word_kept = G.outside.ahead (from + k) (omega (arith, R.ahead))

  fits : to + noted ≤ length before
  fits = omega (arith, R.room)

  -- there is room for what it says
  room-one : length (said (part from k before)) + length (said (get_or before (from + k) 0 ∷ [])) ≤ length (said (part from n before))
  room-one =
      let e : k + 1 + (n - (k + 1)) ≡ n = omega arith in
      let m = said-most before from (k + 1) (n - (k + 1)) (omega (arith, R.ahead, fits)) in
      let q = ap length (said_more before from k (omega (arith, R.ahead, fits))) ∙ length-append (said (part from k before)) (said (get_or before (from + k) 0 ∷ [])) in
      let r = ap (λ (j : ℕ). length (said (part from j before))) e in
      omega arith

  said-one : 0 < get_or before (from + k) 0 → length (said (get_or before (from + k) 0 ∷ [])) ≡ 1
  unfolding said
  said-one p = let e : get_or before (from + k) 0 ≡ suc (get_or before (from + k) 0 - 1) = omega arith in rw e

  pub going_noting : Noting work (from + k) to on
  going_noting = record {
    source = omega (arith, R.ahead);
    room = λ p. omega (arith, word_kept, room-one, said-one (omega (arith, word_kept)), G.many, R.room, G.outside.long);
    inside = omega (arith, room-one, G.many, R.room, G.outside.long);
  }

  pub going_on : (work' : List ℕ) (on' : ℕ) → NotesOne work work' (from + k) to on on' → Going before work' from n to noted (k + 1) on'
  going_on work' on' N =
      let q = said_more before from k (omega (arith, R.ahead, fits)) in
      let w : said (get_or work (from + k) 0 ∷ []) ≡ said (get_or before (from + k) 0 ∷ []) = ap (λ (x : ℕ). said (x ∷ [])) word_kept in
      let l : part to on' work' ≡ part to noted before ++ said (part from (k + 1) before) =
      N.1 ∙ ap₂ ◌++◌ G.list w ∙ append_assoc (part to noted before) (said (part from k before)) (said (get_or before (from + k) 0 ∷ [])) ∙ ap (λ (xs : List ℕ). part to noted before ++ xs) (sym q) in
      let m = N.2 in
      record {
        low = omega arith;
        outside = record {
          long = N.0.long ∙ G.outside.long;
          ahead = λ i h. N.0.ahead i (omega (arith, G.many)) ∙ G.outside.ahead i h;
          behind = λ i h. N.0.behind i h ∙ G.outside.behind i (omega (arith, m));
        };
        list = l;
        many = m ∙ omega (arith, G.many, ap length q, length-append (said (part from k before)) (said (get_or before (from + k) 0 ∷ [])), ap length w);
      }

-- all are
pub going_done : (before work : List ℕ) (from n to noted k on : ℕ) → n ≤ k → Going before work from n to noted k on → Notes before work from n to noted on
going_done before work from n to noted k on h G =
    let e : k ≡ n = omega (arith, G.low) in
    let list : part to on work ≡ part to noted before ++ said (part from n before) = rw e at G.list in
    let many : on ≡ noted + length (said (part from n before)) = rw e at G.many in
    (G.outside, list, many)
