-- The search from a state without lines: what it asks and answers.
use Rattle.std.specs.Prelude.{Result}
use Rattle.std.specs.Prelude.{◌≡◌, length, take}
use Rattle.std.proofs.Math.Path.{refl, sym, ap, ap₂, subst}
use Rattle.std.proofs.Common.{◌∙◌}
use mathlib.Core.List.{List, []}
use Prim.Native.Nat.{ℕ, suc, ◌+◌, ◌-◌, ◌/◌, ◌≤◌}
use native.Mathlib.Omega.{arith}
use Rattle.definition.specs.Pack.{Pack}
use Rattle.definition.specs.Frame.{Read}
use Rattle.definition.specs.Answer.{Lent}
use Rattle.definition.specs.Run.{outcome}
use Rattle.pack_tables.specs.Catalog.{records_of}
use Rattle.pack_read.specs.Reads.{Reads}
use Rattle.pack_read.specs.Held.{Proper, Held, OfHeld}
use Rattle.store.specs.Stored.{Stored, nodes}
use Rattle.store.specs.declared.nodes.Store.{Store}
use Rattle.text_write.specs.Written.{ends-whole}
use Rattle.theory.specs.Walks.Again.{stored}
use Rattle.emission.specs.Name.{name_with}
use Rattle.emission.specs.Render.{proof_text}
use Rattle.emission.specs.State.{Emitter, Tried}
use Rattle.emission.specs.Begin.{fresh}
use Rattle.emission.specs.Prove.{prove}
use Rattle.emit_state.specs.Places.{index_in, Laid}
use Rattle.emit_state.specs.Holding.{lends, World, most_cells, levels, Holding, Ready, Asked, Answers, Comes as ComesIn}
use Rattle.emit_state.specs.Begin.{world_at, Begins}
use Rattle.emit_state.specs.declared.places.Places.{Places}
use Rattle.emit_state.specs.declared.standing.Standing.{Standing}
use Rattle.emit_state.specs.declared.standing.Proved.{Proved}
use Rattle.emit_state.specs.declared.standing.Proved.TheVariants.{Line, Fails, Refused}
use Rattle.host_search.specs.declared.asked.Query.{Query}
use Rattle.host_search.specs.Came.{told}
use Rattle.host_search.specs.Searched.{judged, setting_of, line_in, told_by, sought}
use Rattle.host_search.specs.Ends.{Comes, sought_of}
use Rattle.host_search.specs.Asked.{Given}
use Rattle.host_search.specs.Judged.{begins_sound, begins_has, begins_supposed}
use Rattle.definition.specs.declared.Answer.{Answer}

-- a store of patterns with its places in work, and the judgment that is asked for among them
pub record Beginning (bytes work words : List ℕ) (text : ℕ) (l : Places) (st : Store) (j : ℕ) (q : Query) : Type 0 where
  pub held : Held bytes work l.hand.catalog
  pub laid : Laid work l
  pub patterns : Stored (index_in work l) words st
  pub room : l.room ≡ length words / 2
  pub few : length words ≤ most_cells
  pub text_few : text ≤ most_cells
  pub name : l.hand.name ≡ q.name
  pub given : OfHeld bytes work l.hand.catalog (λ P. Given P q.node q.depth)
  pub judgment : OfHeld bytes work l.hand.catalog (λ P. judged P q.node ≡ stored j (nodes words st))

-- what is answered of whatever pack is held, in whatever lengths
abbrev pub BegunFrom : List ℕ → List ℕ → List ℕ → List ℕ → ℕ → Places → Store → ℕ → Query → Result (ℕ × ℕ) Answer → Type 0
BegunFrom bytes work words proof' text l st j q r =
    (lent : Lent) → lent.pattern ≡ length words → lent.text ≡ text → OfHeld bytes work l.hand.catalog (λ P. Comes proof' (sought lent P q.depth q.name (stored j (nodes words st))) r)

-- what the search in code comes to is what the definition's does
module _ (bytes work words proof : List ℕ) (l : Places) (w : World) (P : Pack) (name : ℕ) (pack-is : w.setting.pack ≡ P) (named : w.setting.name ≡ name_with name) (o : Read (Tried ℕ)) where
  -- the text is that of the lines
  text_of : (m : Standing) (e : Emitter) → Holding (lends bytes work words proof) l m w e → take m.text proof ≡ proof_text P (name_with name) e.undone.lines
  text_of m e H =
      (ends-whole proof m.text (proof_text w.setting.pack w.setting.name e.undone.lines) (omega (arith, H.text_few)) H.written H.ends).1
      ∙ ap₂ (λ (p : Pack) (n : List ℕ). proof_text p n e.undone.lines) pack-is named

  -- the answer is told
  pub comes_told : (r : Proved) → ComesIn (lends bytes work words proof) l w o r → Comes proof (told_by P name o) (sought_of r)
  unfolding told_by line_in
  comes_told (Line t n) C =
      let H = C.2 in
      let k : n + 1 ≡ suc n = omega arith in
      (H.ends, ap₂ told k (text_of t C.0 H) ∙ sym (ap (told_by P name) C.1))
  comes_told (Fails t) C = let H = C.2 in (H.ends, ap (told 0) (text_of t C.0 H) ∙ sym (ap (told_by P name) C.1))
  comes_told (Refused x) C = (tt, sym (ap (told_by P name) C))

module _ (bytes work work' words proof : List ℕ) (l : Places) (st : Store) (j : ℕ) (q : Query) (B : Beginning bytes work words (length proof) l st j q) (m : Standing) (A : Begins bytes work work' words l st m) where
  -- what the search goes by
  abbrev world : Lent → Pack → World
  world lent P = world_at lent (setting_of P q.name) work'

  module _ (lent : Lent) (p : lent.pattern ≡ length words) (t : lent.text ≡ length proof) (P : Pack) (R : Reads bytes (records_of work l.hand.catalog) P) (Q : Proper P) where
    -- the buffers hold its beginning
    ready : Ready (lends bytes work' words proof) l m (world lent P) (fresh (nodes words st))
    ready = record {
      holding = A.holding proof lent (setting_of P q.name) B.text_few p t R Q (ap name_with (sym B.name));
      sound = begins_sound P Q q.name q.node q.depth (B.given P R Q) j (nodes words st) (B.judgment P R Q);
      supposed = begins_supposed P Q q.name q.node q.depth (B.given P R Q) j (nodes words st) (B.judgment P R Q);
    }

  -- some lengths, for what asks of none
  lengths : Lent
  lengths = record { pack = 0; class = 0; pattern = length words; graph = 0; work = 0; text = length proof; goals = 0 }

  -- the judgment may be asked for
  pub begun-asked : Asked (lends bytes work' words proof) l m j × (q.depth ≤ levels)
  unfolding lengths
  begun-asked =
      let H = B.held in
      let P = H.pack in (
        record {
          world = world lengths P;
          state = fresh (nodes words st);
          ready = ready lengths refl refl P H.reads H.proper;
          has = begins_has P H.proper q.name q.node q.depth (B.given P H.reads H.proper) j (nodes words st) (B.judgment P H.reads H.proper);
        },
        (B.given P H.reads H.proper).levels_few,
      )

  -- what is answered of it
  pub begun-sought : (work'' words'' proof'' : List ℕ) (r : Proved) (s : Result (ℕ × ℕ) Answer)
      → Answers (lends bytes work' words proof) (lends bytes work'' words'' proof'') l m j (λ w. prove (levels - q.depth) w.setting w.hyps j) r → s ≡ sought_of r → BegunFrom bytes work words proof'' (length proof) l st j q s
  unfolding sought
  begun-sought work'' words'' proof'' r s N e lent p t P R Q =
      let G = B.given P R Q in
      let J = B.judgment P R Q in
      let h = begins_has P Q q.name q.node q.depth G j (nodes words st) J in
      let C = N.comes (world lent P) (fresh (nodes words st)) (ready lent p t P R Q) h in
      let o = outcome lent (prove (levels - q.depth) (setting_of P q.name) [] j (fresh (nodes words st))) in
      subst (λ (x : Result (ℕ × ℕ) Answer). Comes proof'' (told_by P q.name o) x) (sym e) (comes_told bytes work'' words'' proof'' l (world lent P) P q.name refl refl o r C)
