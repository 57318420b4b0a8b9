-- A map asked, and all of them emptied.
use Rattle.std.specs.Prelude.{Some, None}
use Rattle.std.specs.Prelude.{◌≡◌, List, ℕ, ◌+◌, ◌-◌, ◌*◌, ◌≤◌, ◌<◌, length, get_or, take, drop, replicate}
use Rattle.std.proofs.Math.Path.{sym, ap}
use Rattle.std.proofs.Common.{◌∙◌, arith}
use Rattle.base.specs.Part.{put}
use Rattle.buffer.specs.Zero.{zeros_long, zeros_there, zeros-before, zeros-behind}
use Rattle.emit_maps.specs.Map.{told, told_more, Laid, start, mapped_none, word-within}
use Rattle.emit_maps.specs.Trail.{Counted}
use Rattle.emit_maps.specs.Holds.{Looks, Begins}
use Rattle.emit_maps.specs.declared.maps.Maps.{Maps}

-- ---- the word of p in map k stands at a place
module _ (work : List ℕ) (m : Maps) (k p at : ℕ) (h : p < m.room) (e : at ≡ start m k + p) where
  -- it is 0
  pub looked_nothing : get_or work at 0 ≡ 0 → Looks work m k p None
  unfolding told
  looked_nothing z = record { value = λ bs B. sym (B.values p h ∙ ap (λ (i : ℕ). told (get_or work i 0)) (sym e) ∙ ap told z) }

  -- it is not
  pub looked_number : (get_or work at 0 ≡ 0 → ⊥) → Looks work m k p (Some (get_or work at 0 - 1))
  looked_number d = record { value = λ bs B. sym (B.values p h ∙ ap (λ (i : ℕ). told (get_or work i 0)) (sym e) ∙ told_more (get_or work at 0) (get_or work at 0 - 1) (omega arith)) }

-- ---- the maps were lent and came back as zeros
module _ (work : List ℕ) (m : Maps) (L : Laid work m) (zs : List ℕ) (z : zs ≡ replicate (length (take (m.at + 5 * m.room - m.at) (drop m.at work))) 0) where
  abbrev cleared : List ℕ
  cleared = put m.at (m.at + 5 * m.room - m.at) zs work

  fits : m.at + 5 * m.room ≤ length work
  fits = omega (arith, L.within)

  -- every map is empty, and nothing else has changed
  pub begun : Begins work cleared m
  begun = record {
    outside = record {
      long = zeros_long m.at (m.at + 5 * m.room) (5 * m.room) work zs (omega arith) fits z;
      ahead = zeros-before m.at (m.at + 5 * m.room) (5 * m.room) work zs (omega arith) fits z;
      behind = zeros-behind m.at (m.at + 5 * m.room) (5 * m.room) work zs (omega arith) fits z;
    };
    empty = λ k l. mapped_none cleared (start m k) m.room (λ p h.
        let i : start m k + p ≡ m.at + (k * m.room + p) = omega arith in
        ap (λ (j : ℕ). get_or cleared j 0) i
        ∙ zeros_there m.at (m.at + 5 * m.room) (5 * m.room) work zs (omega arith) fits z (k * m.room + p) (omega (arith, word-within m 5 k p l h)));
  }

-- no entry goes with any words
pub counted_none : (work : List ℕ) (m : Maps) → Counted work m 0
counted_none work m = record { count = omega arith }
