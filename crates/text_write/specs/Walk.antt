-- The walk over a term: its stack of frames, and what is left to be written.
use Rattle.std.specs.Prelude.{◌≡◌, refl, false, length, get_or, set}
use Rattle.std.proofs.Common.{sym, subst, ◌∙◌, get_or-set_same, get_or-set_other}
use Rattle.std.proofs.Math.Path.{ap, ap₂}
use mathlib.Core.List.{List, [], ◌∷◌, ◌++◌, append_assoc, append-nil}
use Prim.Native.Nat.{ℕ, zero, suc, ◌+◌, ◌*◌, ◌≤◌, ◌<◌}
use native.Mathlib.Omega.{arith}
use Rattle.definition.specs.Pack.{Node, Pack, most_arity, no_node}
use Rattle.definition.specs.Graph.{Pair}
use Rattle.definition.specs.Good.{Below}
use Rattle.definition.specs.Store.{nothing, is_variable, term_of}
use Rattle.definition.specs.Shown.{show, variable_name}
use Rattle.base.specs.Upto.{Upto, upto_none, upto_then, upto_outside}
use Rattle.base.specs.Outside.{outside_set, outside_then}
use Rattle.base.specs.Pairs.{pair, pairs_in, length-pairs_in, pairs_more, pairs_kept}
use Rattle.pack_tables.specs.Catalog.{records_of}
use Rattle.pack_tables.specs.SameTables.{end_of}
use Rattle.pack_read.specs.Reads.{Reads}
use Rattle.theory.specs.Copies.Terms.{below-applied}
use Rattle.text_write.specs.Written.{Adds, adds_none, adds_then, adds_as, adds-over, nowhere}
use Rattle.text_write.specs.Source.{nodes_of, node_in, many_in, Sourced, OfSource, source_on, source_reads, source_back, source_many, many-nodes, source_earlier, source_few}
use Rattle.text_write.specs.Left.{left_of, shown_then, shown_alone, left_some, left_close, left-next, shown_spent}
use Rattle.text_write.specs.Nodes.{WritesNode}
use Rattle.text_write.specs.declared.source.Source.{Source}
use Rattle.text_write.specs.declared.term.Point.{Point}
use Rattle.text_write.specs.declared.node.Shown.TheVariants.{Whole, Open}

-- ---- the frames
-- their nodes are applications and ascend, from m on: each is an argument of the one below it
abbrev pub Over : List Node → ℕ → List Pair → Type 0
Over ns m [] = m ≤ length ns
Over ns m (f ∷ fs) = (m ≤ f.left) × (f.left < length ns) × (is_variable (get_or ns f.left no_node) ≡ false) × Over ns (suc f.left) fs

-- so there are no more of them than nodes
over_few : (ns : List Node) (m : ℕ) (fs : List Pair) → Over ns m fs → m + length fs ≤ length ns
over_few ns m [] h = omega (arith, h)
over_few ns m (f ∷ fs) h = omega (arith, h.0, over_few ns (suc f.left) fs h.3)

over-from : (ns : List Node) (m k : ℕ) (fs : List Pair) → k ≤ m → Over ns m fs → Over ns k fs
over-from ns m k [] l h = omega (arith, h)
over-from ns m k (f ∷ fs) l h = (omega (arith, h.0), h.1, h.2, h.3)

-- an argument stands below its node
below_at : (n : ℕ) (args : List ℕ) → Below n args → (i : ℕ) → i < length args → get_or args i 0 < n
below_at n [] b i h = absurd (omega arith)
below_at n (a ∷ args) b zero h = b.0
below_at n (a ∷ args) b (suc i) h = below_at n args b.1 i (omega arith)

-- the pack, the store's index and the stack have their places
pub record Placed (bytes work words : List ℕ) (s : Source) (stack : ℕ) : Type 0 where
  pub sourced : Sourced bytes work words s
  pub tables : end_of s.catalog ≤ stack
  pub index : s.end ≤ stack
  pub room : stack + 2 * many_in work words s ≤ length work

-- words of the stack may change
module _ (bytes work work' words : List ℕ) (s : Source) (stack : ℕ) (U : Upto stack work work') (L : Placed bytes work words s stack) where
  pub placed-many : many_in work' words s ≡ many_in work words s
  placed-many = source_many bytes work work' words s stack U L.tables L.index L.sourced

  pub placed_on : Placed bytes work' words s stack
  placed_on = record {
    sourced = source_on bytes work work' words s stack U L.tables L.index L.sourced;
    tables = L.tables;
    index = L.index;
    room = omega (arith, L.room, U.long, placed-many);
  }

  -- the same pack is read
  pub placed_reads : (P : Pack) → Reads bytes (records_of work s.catalog) P → Reads bytes (records_of work' s.catalog) P
  placed_reads = source_reads bytes work work' words s stack U L.tables L.index L.sourced

  pub placed-back : (P : Pack) → Reads bytes (records_of work' s.catalog) P → Reads bytes (records_of work s.catalog) P
  placed-back = source_back bytes work work' words s stack U L.tables L.index L.sourced

-- frames have room
frames_room : (bytes work words : List ℕ) (s : Source) (stack m frames : ℕ) → Placed bytes work words s stack → OfSource bytes work s (λ P. Over (nodes_of P words s) m (pairs_in stack work frames)) → stack + 2 * (m + frames) ≤ length work
frames_room bytes work words s stack m frames L O =
    let H = L.sourced.held in
    omega (arith, L.room, over_few (nodes_of H.pack words s) m (pairs_in stack work frames) (O H.pack H.reads H.proper), length-pairs_in stack work frames, many-nodes bytes work words s H.pack H.reads)

-- ---- what is asked and promised
-- bytes were written, and with what is left they are the whole
abbrev pub Goes : Pack → List Node → (text text' : List ℕ) (at : ℕ) → List ℕ → Point → List Pair → Type 0
Goes P ns text text' at whole r fs = (w : List ℕ) × Adds text text' at w r.at × (whole ≡ w ++ left_of P ns r.left fs)

-- `visit`: node x is come to with these frames
pub record Visiting (bytes work words : List ℕ) (s : Source) (stack frames x : ℕ) : Type 0 where
  pub placed : Placed bytes work words s stack
  pub there : x < many_in work words s
  pub over : OfSource bytes work s (λ P. Over (nodes_of P words s) (suc x) (pairs_in stack work frames))

pub record Visits (bytes work work' words text text' : List ℕ) (s : Source) (stack : ℕ) (p : Point) (x : ℕ) (r : Point) : Type 0 where
  pub upto : Upto stack work work'
  pub over : OfSource bytes work s (λ P. Over (nodes_of P words s) 0 (pairs_in stack work' r.frames))
  pub goes : OfSource bytes work s (λ P. Goes P (nodes_of P words s) text text' p.at (shown_then P (nodes_of P words s) p.left x (pairs_in stack work p.frames)) r (pairs_in stack work' r.frames))

-- `turn`: there are frames
pub record Turning (bytes work words : List ℕ) (s : Source) (stack frames : ℕ) : Type 0 where
  pub placed : Placed bytes work words s stack
  pub some : 0 < frames
  pub over : OfSource bytes work s (λ P. Over (nodes_of P words s) 0 (pairs_in stack work frames))

pub record Turns (bytes work work' words text text' : List ℕ) (s : Source) (stack : ℕ) (p r : Point) : Type 0 where
  pub upto : Upto stack work work'
  pub over : OfSource bytes work s (λ P. Over (nodes_of P words s) 0 (pairs_in stack work' r.frames))
  pub goes : OfSource bytes work s (λ P. Goes P (nodes_of P words s) text text' p.at (left_of P (nodes_of P words s) p.left (pairs_in stack work p.frames)) r (pairs_in stack work' r.frames))
  pub on : p.at < length text → p.at < r.at

-- `write_term`: node x is shown with a budget
pub record Writing (bytes work words : List ℕ) (s : Source) (stack x : ℕ) : Type 0 where
  pub placed : Placed bytes work words s stack
  pub there : x < many_in work words s

pub record Writes (bytes work work' words text text' : List ℕ) (s : Source) (stack at budget x r : ℕ) : Type 0 where
  pub upto : Upto stack work work'
  pub adds : OfSource bytes work s (λ P. Adds text text' at (show P variable_name (term_of (nodes_of P words s) x) budget).bytes r)

-- ---- a visit
module _ (bytes work words text text' : List ℕ) (s : Source) (stack x : ℕ) (p : Point) (I : Visiting bytes work words s stack p.frames x) where
  -- its frame has room
  pub visit-room : stack + 2 * p.frames + 1 < length work
  visit-room = omega (arith, frames_room bytes work words s stack (suc x) p.frames I.placed I.over)

  same_over : OfSource bytes work s (λ P. Over (nodes_of P words s) 0 (pairs_in stack work p.frames))
  same_over P R Q = over-from (nodes_of P words s) (suc x) 0 (pairs_in stack work p.frames) (omega arith) (I.over P R Q)

  -- the budget is spent
  pub visit_spent : p.left ≡ 0 → (end : ℕ) → Adds text text' p.at (226 ∷ 128 ∷ 166 ∷ []) end → Visits bytes work work words text text' s stack p x (record { frames = p.frames; left = 0; at = end })
  visit_spent z end A = record {
    upto = upto_none stack work;
    over = same_over;
    goes = λ P R Q.
        (226 ∷ 128 ∷ 166 ∷ [], A, ap (λ (b : ℕ). shown_then P (nodes_of P words s) b x (pairs_in stack work p.frames)) z ∙ shown_spent P (nodes_of P words s) x (pairs_in stack work p.frames));
  }

  module _ (b : ℕ) (e : p.left ≡ suc b) (end : ℕ) where
    -- its text is whole
    pub visit-whole : OfSource bytes work s (λ P. WritesNode P (nodes_of P words s) text text' p.at x (Whole end)) → Visits bytes work work words text text' s stack p x (record { frames = p.frames; left = b; at = end })
    visit-whole W = record {
      upto = upto_none stack work;
      over = same_over;
      goes = λ P R Q.
          let w = W P R Q in
          (w.0, w.1, ap (λ (c : ℕ). shown_then P (nodes_of P words s) c x (pairs_in stack work p.frames)) e ∙ w.2 b (pairs_in stack work p.frames));
    }

    -- it has a frame
    module _ (work' : List ℕ) (F : work' ≡ set (set work (stack + 2 * p.frames) x) (stack + 2 * p.frames + 1) 0) where
      framed : pairs_in stack work' (p.frames + 1) ≡ pair x 0 ∷ pairs_in stack work p.frames
      framed =
          let n : p.frames + 1 ≡ suc p.frames = omega arith in
          ap (λ (w : List ℕ). pairs_in stack w (p.frames + 1)) F
          ∙ ap (pairs_in stack (set (set work (stack + 2 * p.frames) x) (stack + 2 * p.frames + 1) 0)) n
          ∙ pairs_more stack work p.frames x 0 visit-room

      opened : Upto stack work work'
      opened =
          let i : ℕ = stack + 2 * p.frames in
          subst (Upto stack work) (sym F)
          (upto_outside stack stack (i + 2) work (set (set work i x) (i + 1) 0) (omega arith)
          (outside_then stack (i + 2) work (set work i x) (set (set work i x) (i + 1) 0) (outside_set stack (i + 2) work i x (omega arith) (omega arith)) (outside_set stack (i + 2) (set work i x) (i + 1) 0 (omega arith) (omega arith))))

      pub visit_open : OfSource bytes work s (λ P. WritesNode P (nodes_of P words s) text text' p.at x (Open end)) → Visits bytes work work' words text text' s stack p x (record { frames = p.frames + 1; left = b; at = end })
      visit_open W = record {
        upto = opened;
        over = λ P R Q. subst (Over (nodes_of P words s) 0) (sym framed) (omega arith, omega (arith, I.there, many-nodes bytes work words s P R), (W P R Q).3, I.over P R Q);
        goes = λ P R Q.
            let w = W P R Q in
            let fs = pairs_in stack work p.frames in
            let e1 : shown_then P (nodes_of P words s) p.left x fs ≡ shown_then P (nodes_of P words s) (suc b) x fs = ap (λ (c : ℕ). shown_then P (nodes_of P words s) c x fs) e in
            (w.0, w.1, e1 ∙ w.2 b fs ∙ ap (λ (gs : List Pair). w.0 ++ left_of P (nodes_of P words s) b gs) (sym framed));
      }

-- ---- a turn on the frame above top others
module _ (bytes work words text : List ℕ) (s : Source) (stack : ℕ) (p : Point) (T : Turning bytes work words s stack p.frames) (top : ℕ) (count : p.frames ≡ top + 1) where
  -- its node, and how many arguments are shown
  abbrev node : ℕ
  node = get_or work (stack + 2 * top) 0

  abbrev taken : ℕ
  taken = get_or work (stack + 2 * top + 1) 0

  frames_are : pairs_in stack work p.frames ≡ pair node taken ∷ pairs_in stack work top
  unfolding pairs_in
  frames_are = let e : p.frames ≡ suc top = omega (arith, count) in ap (pairs_in stack work) e

  frames_over : OfSource bytes work s (λ P. Over (nodes_of P words s) 0 (pair node taken ∷ pairs_in stack work top))
  frames_over P R Q = subst (Over (nodes_of P words s) 0) frames_are (T.over P R Q)

  -- its words stand in work
  pub turn-room : stack + 2 * top + 1 < length work
  turn-room = omega (arith, frames_room bytes work words s stack 0 p.frames T.placed T.over, count)

  -- its node can be read
  pub turn-node : get_or work (stack + 2 * top) 0 < many_in work words s
  turn-node =
      let H = T.placed.sourced.held in
      omega (arith, (frames_over H.pack H.reads H.proper).1, many-nodes bytes work words s H.pack H.reads)

  -- and has few arguments
  pub turn_few : OfSource bytes work s (λ P. length (node_in P words s (get_or work (stack + 2 * top) 0)).args ≤ most_arity)
  turn_few P R Q = let o = frames_over P R Q in source_few bytes work words s T.placed.sourced P R Q node o.1 o.2

  -- all arguments are shown: the bracket is closed
  pub turn_close : OfSource bytes work s (λ P. length (node_in P words s (get_or work (stack + 2 * top) 0)).args ≤ get_or work (stack + 2 * top + 1) 0) → (text' : List ℕ) (end : ℕ) → Adds text text' p.at (41 ∷ []) end
      → (p.at < length text → end ≡ p.at + 1) → Turns bytes work work words text text' s stack p (record { frames = top; left = p.left; at = end })
  turn_close all text' end A on = record {
    upto = upto_none stack work;
    over = λ P R Q. over-from (nodes_of P words s) (suc node) 0 (pairs_in stack work top) (omega arith) (frames_over P R Q).3;
    goes = λ P R Q. (41 ∷ [], A, ap (left_of P (nodes_of P words s) p.left) frames_are ∙ left_close P (nodes_of P words s) p.left node taken (pairs_in stack work top) (all P R Q));
    on = λ h. omega (arith, on h);
  }

  -- one argument more
  module _ (more : OfSource bytes work s (λ P. get_or work (stack + 2 * top + 1) 0 < length (node_in P words s (get_or work (stack + 2 * top) 0)).args)) (y : ℕ)
      (Y : OfSource bytes work s (λ P. y ≡ get_or (node_in P words s (get_or work (stack + 2 * top) 0)).args (get_or work (stack + 2 * top + 1) 0) 0))
      (work' : List ℕ) (F : work' ≡ set work (stack + 2 * top + 1) (get_or work (stack + 2 * top + 1) 0 + 1)) where
    taken_more : pairs_in stack work' p.frames ≡ pair node (suc taken) ∷ pairs_in stack work top
    unfolding pairs_in
    taken_more =
        let e : p.frames ≡ suc top = omega (arith, count) in
        let i : ℕ = stack + 2 * top in
        let v : taken + 1 ≡ suc taken = omega arith in
        ap (λ (w : List ℕ). pairs_in stack w p.frames) F
        ∙ ap (pairs_in stack (set work (i + 1) (taken + 1))) e
        ∙ ap₂ (λ (f : Pair) (fs : List Pair). f ∷ fs) (ap₂ pair (get_or-set_other work (i + 1) i (taken + 1) 0 (λ q. omega (arith, q))) (get_or-set_same work (i + 1) (taken + 1) 0 turn-room ∙ v))
        (pairs_kept stack work top (i + 1) (taken + 1) (omega arith))

    turned : Upto stack work work'
    turned = let i : ℕ = stack + 2 * top in subst (Upto stack work) (sym F) (upto_outside stack stack (i + 2) work (set work (i + 1) (taken + 1)) (omega arith) (outside_set stack (i + 2) work (i + 1) (taken + 1) (omega arith) (omega arith)))

    -- it stands below its node
    lower : OfSource bytes work s (λ P. y < get_or work (stack + 2 * top) 0)
    lower P R Q =
        let ns = nodes_of P words s in
        let o = frames_over P R Q in
        let E = source_earlier bytes work words s T.placed.sourced P R Q node o.1 in
        subst (λ (z : ℕ). z < node) (sym (Y P R Q)) (below_at node (node_in P words s node).args (subst (Below node) (below-applied (node_in P words s node) o.2) E) taken (more P R Q))

    -- it can be visited
    pub turn_visits : Visiting bytes work' words s stack p.frames y
    turn_visits =
        let H = T.placed.sourced.held in
        record {
          placed = placed_on bytes work work' words s stack turned T.placed;
          there = omega (arith, lower H.pack H.reads H.proper, turn-node, placed-many bytes work work' words s stack turned T.placed);
          over = λ P R Q.
              let R₀ = placed-back bytes work work' words s stack turned T.placed P R in
              let o = frames_over P R₀ Q in
              subst (Over (nodes_of P words s) (suc y)) (sym taken_more) (omega (arith, lower P R₀ Q), o.1, o.2, o.3);
        }

    -- and what that comes to is the turn
    pub turn-next : (text₁ text' work'' : List ℕ) (end : ℕ) (r : Point) → Adds text text₁ p.at (32 ∷ []) end → (p.at < length text → end ≡ p.at + 1)
        → Visits bytes work' work'' words text₁ text' s stack (record { frames = p.frames; left = p.left; at = end }) y r → Turns bytes work work'' words text text' s stack p r
    turn-next text₁ text' work'' end r A on I =
        let H = T.placed.sourced.held in
        let reads = placed_reads bytes work work' words s stack turned T.placed in
        record {
          upto = upto_then stack work work' work'' turned I.upto;
          over = λ P R Q. I.over P (reads P R) Q;
          goes = λ P R Q.
              let ns = nodes_of P words s in
              let v = I.goes P (reads P R) Q in (
                32 ∷ v.0,
                adds_then text text₁ text' p.at end r.at (32 ∷ []) v.0 A v.1,
                ap (left_of P ns p.left) frames_are
                    ∙ left-next P ns p.left node taken (pairs_in stack work top) (more P R Q)
                    ∙ ap₂ (λ (z : ℕ) (fs : List Pair). 32 ∷ shown_then P ns p.left z fs) (sym (Y P R Q)) (sym taken_more)
                    ∙ ap (λ (xs : List ℕ). 32 ∷ xs) v.2,
              );
          on = λ h. omega (arith, on h, (I.goes H.pack (reads H.pack H.reads) H.proper).1.on);
        }

  -- the same of what code has read: node x, so many arguments taken of n
  module _ (x k : ℕ) (X : x ≡ get_or work (stack + 2 * top) 0) (K : k ≡ get_or work (stack + 2 * top + 1) 0) (n : ℕ) (A : OfSource bytes work s (λ P. n ≡ length (node_in P words s x).args)) where
    sized : OfSource bytes work s (λ P. n ≡ length (node_in P words s node).args)
    sized P R Q = A P R Q ∙ ap (λ (z : ℕ). length (node_in P words s z).args) X

    pub read_close : n ≤ k → (text' : List ℕ) (end : ℕ) → Adds text text' p.at (41 ∷ []) end → (p.at < length text → end ≡ p.at + 1) → Turns bytes work work words text text' s stack p (record { frames = top; left = p.left; at = end })
    read_close h = turn_close (λ P R Q. omega (arith, sized P R Q, K, h))

    pub read_argument : k < n → (S : Sourced bytes work words s) × (x < many_in work words s) × (k < length (node_in S.held.pack words s x).args)
    read_argument h = let H = T.placed.sourced.held in (T.placed.sourced, omega (arith, X, turn-node), omega (arith, h, A H.pack H.reads H.proper))

    pub read_taken : k < n → (stack + 2 * top + 1 < length work) × (k < nothing)
    read_taken h = let H = T.placed.sourced.held in (turn-room, omega (arith, h, sized H.pack H.reads H.proper, turn_few H.pack H.reads H.proper))

    module _ (h : k < n) (y : ℕ) (Y : OfSource bytes work s (λ P. y ≡ get_or (node_in P words s x).args k 0)) (work' : List ℕ) (F : work' ≡ set work (stack + 2 * top + 1) (k + 1)) where
      more_left : OfSource bytes work s (λ P. get_or work (stack + 2 * top + 1) 0 < length (node_in P words s (get_or work (stack + 2 * top) 0)).args)
      more_left P R Q = omega (arith, sized P R Q, K, h)

      next_is : OfSource bytes work s (λ P. y ≡ get_or (node_in P words s (get_or work (stack + 2 * top) 0)).args (get_or work (stack + 2 * top + 1) 0) 0)
      next_is P R Q = Y P R Q ∙ ap₂ (λ (z j : ℕ). get_or (node_in P words s z).args j 0) X K

      written : work' ≡ set work (stack + 2 * top + 1) (get_or work (stack + 2 * top + 1) 0 + 1)
      written = F ∙ ap (λ (j : ℕ). set work (stack + 2 * top + 1) (j + 1)) K

      pub read_visits : Visiting bytes work' words s stack p.frames y
      read_visits = turn_visits more_left y next_is work' written

      pub read_next : (text₁ text' work'' : List ℕ) (end : ℕ) (r : Point) → Adds text text₁ p.at (32 ∷ []) end → (p.at < length text → end ≡ p.at + 1)
          → Visits bytes work' work'' words text₁ text' s stack (record { frames = p.frames; left = p.left; at = end }) y r → Turns bytes work work'' words text text' s stack p r
      read_next = turn-next more_left y next_is work' written

-- ---- the turns until no frame is left
-- `finish`: frames stand
pub record Finishing (bytes work words : List ℕ) (s : Source) (stack frames : ℕ) : Type 0 where
  pub placed : Placed bytes work words s stack
  pub over : OfSource bytes work s (λ P. Over (nodes_of P words s) 0 (pairs_in stack work frames))

pub record Finishes (bytes work work' words text text' : List ℕ) (s : Source) (stack : ℕ) (p : Point) (r : ℕ) : Type 0 where
  pub upto : Upto stack work work'
  pub adds : OfSource bytes work s (λ P. Adds text text' p.at (left_of P (nodes_of P words s) p.left (pairs_in stack work p.frames)) r)

-- from the first turn up to here: with what is left it gives what was left then
pub record Runs (bytes before work words text₀ text : List ℕ) (s : Source) (stack : ℕ) (p₀ p : Point) : Type 0 where
  pub upto : Upto stack before work
  pub over : OfSource bytes before s (λ P. Over (nodes_of P words s) 0 (pairs_in stack work p.frames))
  pub goes : OfSource bytes before s (λ P. Goes P (nodes_of P words s) text₀ text p₀.at (left_of P (nodes_of P words s) p₀.left (pairs_in stack before p₀.frames)) p (pairs_in stack work p.frames))

module _ (bytes before words text₀ : List ℕ) (s : Source) (stack : ℕ) (p₀ : Point) (W : Finishing bytes before words s stack p₀.frames) where
  -- before the first
  pub runs_none : Runs bytes before before words text₀ text₀ s stack p₀ p₀
  runs_none = record { upto = upto_none stack before; over = W.over; goes = λ P R Q. ([], adds_none text₀ p₀.at, refl) }

  module _ (work text : List ℕ) (p : Point) (K : Runs bytes before work words text₀ text s stack p₀ p) where
    -- a turn can be made
    pub runs_turning : 0 < p.frames → Turning bytes work words s stack p.frames
    runs_turning h = record {
      placed = placed_on bytes before work words s stack K.upto W.placed;
      some = h;
      over = λ P R Q. K.over P (placed-back bytes before work words s stack K.upto W.placed P R) Q;
    }

    -- and leads on
    pub runs_on : (work' text' : List ℕ) (r : Point) → Turns bytes work work' words text text' s stack p r → Runs bytes before work' words text₀ text' s stack p₀ r
    runs_on work' text' r T =
        let reads = placed_reads bytes before work words s stack K.upto W.placed in
        record {
          upto = upto_then stack before work work' K.upto T.upto;
          over = λ P R Q. T.over P (reads P R) Q;
          goes = λ P R Q.
              let ns = nodes_of P words s in
              let k = K.goes P R Q in
              let t = T.goes P (reads P R) Q in
              (k.0 ++ t.0, adds_then text₀ text text' p₀.at p.at r.at k.0 t.0 k.1 t.1, k.2 ∙ ap (λ (xs : List ℕ). k.0 ++ xs) t.2 ∙ sym (append_assoc k.0 t.0 (left_of P ns r.left (pairs_in stack work' r.frames))));
        }

    -- no frame is left
    pub runs_end : p.frames ≤ 0 → Finishes bytes before work words text₀ text s stack p₀ p.at
    unfolding pairs_in left_of
    runs_end h = record {
      upto = K.upto;
      adds = λ P R Q.
          let ns = nodes_of P words s in
          let k = K.goes P R Q in
          let z : p.frames ≡ 0 = omega arith in
          let none : left_of P ns p.left (pairs_in stack work p.frames) ≡ [] = ap (λ (n : ℕ). left_of P ns p.left (pairs_in stack work n)) z in
          adds_as text₀ text p₀.at p.at k.0 (left_of P ns p₀.left (pairs_in stack before p₀.frames)) (sym (k.2 ∙ ap (λ (xs : List ℕ). k.0 ++ xs) none ∙ append-nil k.0)) k.1;
    }

    -- the buffer is full, and a bracket is open
    pub runs_full : 0 < p.frames → length text ≤ p.at → p.at ≤ nowhere → Finishes bytes before work words text₀ text s stack p₀ nowhere
    runs_full h full small = record {
      upto = K.upto;
      adds = λ P R Q.
          let ns = nodes_of P words s in
          let k = K.goes P R Q in
          let rest = left_of P ns p.left (pairs_in stack work p.frames) in
          adds_as text₀ text p₀.at nowhere (k.0 ++ rest) (left_of P ns p₀.left (pairs_in stack before p₀.frames)) (sym k.2)
          (adds-over text₀ text p₀.at p.at k.0 rest k.1 full (left_some P ns p.left (pairs_in stack work p.frames) (omega (arith, h, length-pairs_in stack work p.frames))) (omega (arith, k.1.on, small)));
    }

-- ---- the whole walk: a visit without frames, then the turns
module _ (bytes work words text : List ℕ) (s : Source) (stack at budget x : ℕ) (W : Writing bytes work words s stack x) where
  pub writes_visits : Visiting bytes work words s stack 0 x
  unfolding pairs_in
  writes_visits = record { placed = W.placed; there = W.there; over = λ P R Q. omega (arith, W.there, many-nodes bytes work words s P R) }

  module _ (work₁ text₁ : List ℕ) (p : Point) (F : Visits bytes work work₁ words text text₁ s stack (record { frames = 0; left = budget; at = at }) x p) where
    pub writes_finishing : Finishing bytes work₁ words s stack p.frames
    writes_finishing = record {
      placed = placed_on bytes work work₁ words s stack F.upto W.placed;
      over = λ P R Q. F.over P (placed-back bytes work work₁ words s stack F.upto W.placed P R) Q;
    }

    pub writes_all : (work' text' : List ℕ) (r : ℕ) → Finishes bytes work₁ work' words text₁ text' s stack p r → Writes bytes work work' words text text' s stack at budget x r
    unfolding pairs_in
    writes_all work' text' r E = record {
      upto = upto_then stack work work₁ work' F.upto E.upto;
      adds = λ P R Q.
          let ns = nodes_of P words s in
          let v = F.goes P R Q in
          let rest = left_of P ns p.left (pairs_in stack work₁ p.frames) in
          adds_as text text' at r (v.0 ++ rest) (show P variable_name (term_of ns x) budget).bytes (sym v.2 ∙ shown_alone P ns budget x)
          (adds_then text text₁ text' at p.at r v.0 rest v.1 (E.adds P (placed_reads bytes work work₁ words s stack F.upto W.placed P R) Q));
    }
