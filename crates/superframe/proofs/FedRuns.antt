-- Runs of any reader that is fed super frames in order: every call that feeds is accepted, and what the calls hand out adds up. Assumes of the reader what one call does.
use Prim.Native.Nat.{ℕ, zero, suc, ◌+◌, ◌-◌, ◌*◌, ◌≤◌, ◌<◌}
use mathlib.Core.Path.{◌≡◌, refl, sym, ap, ◌∙◌, subst₂, subst₃}
use mathlib.Core.Logic.{◌⊎◌, inl, inr}
use mathlib.Core.Bool.{true, false}
use mathlib.Core.List.{List, [], ◌∷◌, ◌++◌, map}
use native.Mathlib.Nat.{zero-add}
use native.Mathlib.Omega.{arith}
use Rattle.lists.specs.Lists.{table}
use Rattle.lists.proofs.Tables.{table-add}
use Rattle.channels.specs.declared.Scheme.{Scheme}
use Rattle.superframe.specs.declared.State.{State}
use Rattle.superframe.specs.Interleaving.{Progress}
use Rattle.superframe.specs.Code.{state_of}
use Rattle.superframe.specs.Runs.{Begun, state_at, memory_at, SuperFrame, Reader, reads, read_count, Feeds, unread_after, Fed, Accepts}
use Rattle.superframe.proofs.Runs.{start_of, begun-state, begun_memory}

-- Two tables, one after the other.
joins : {A : Type 0} (f : ℕ → A) (a n b k t : ℕ) → b ≡ a + n → t ≡ n + k → table f a n ++ table f b k ≡ table f a t
joins f a n b k t e g = rw (e, g) (sym (table-add f a n k))

-- What super frame m gives, before what those after it give: three of a kind, and the frames from e before.
pub three_more : {A : Type 0} (f : ℕ → A) (m j : ℕ) → table f (3 * m) 3 ++ table f (3 * suc m) (3 * j) ≡ table f (3 * m) (3 * suc j)
three_more f m j = joins f (3 * m) 3 (3 * suc m) (3 * j) (3 * suc j) (omega arith) (omega arith)

meets : (x y : ℕ) → x ≤ y → y ≡ x + (y - x)
meets x y h = omega arith

adds : (x y z : ℕ) → x ≤ y → y ≤ z → z - x ≡ (y - x) + (z - y)
adds x y z h k = omega arith

rises : (x y e : ℕ) → x ≤ y → x - e ≤ y - e
rises x y e h = omega arith

pub frames_more : {A : Type 0} (e : ℕ) (f : ℕ → A) (m j : ℕ)
    → table f (3 * m - e) (3 * m + 3 - e - (3 * m - e)) ++ table f (3 * suc m - e) (3 * (suc m + j) - e - (3 * suc m - e))
    ≡ table f (3 * m - e) (3 * (m + suc j) - e - (3 * m - e))
frames_more e f m j =
    let one : 3 * m + 3 ≡ 3 * suc m = omega arith in
    let all : 3 * (suc m + j) ≡ 3 * (m + suc j) = omega arith in
    let x = rises (3 * m) (3 * suc m) e (omega arith) in
    rw (one, all) (joins f (3 * m - e) (3 * suc m - e - (3 * m - e)) (3 * suc m - e) _ _ (meets _ _ x) (adds _ _ _ x (rises (3 * suc m) (3 * (m + suc j)) e (omega arith))))

-- A call lends a super frame's cells, with outputs of the right lengths.
pub record Lends {C : Type 0} (r : Reader C) (s : Scheme) (f : SuperFrame) (c : C) : Type 0 where
  pub fac : (r.lent c).faccells ≡ f.fac
  pub sdc : (r.lent c).sdccells ≡ f.sdc
  pub msc : (r.lent c).msccells ≡ f.msc
  pub roomy : r.room s c ≡ true

-- What a list of calls hands out, what a call that lends super frame m adds to what those after it hand out, and what j super frames from m on give.
pub record Handing (C O : Type 0) : Type 0 where
  pub handed : State → List ℕ → List C → O
  pub adding : ℕ → O → O
  pub between : ℕ → ℕ → O

-- One call that lends super frame m: it is accepted, it adds what is its own, and what is to be kept before the next super frame is kept.
pub record Turn {C O : Type 0} (r : Reader C) (s : Scheme) (Kept : ℕ → Progress → Type 0) (H : Handing C O) (m : ℕ) (q : Progress) (c : C) : Type 0 where
  pub after : Progress
  pub accepted : reads r (state_of s q) q.memory c ≡ true
  pub state : (r.yields (state_of s q) q.memory c).reading.state ≡ state_of s after
  pub memory : (r.yields (state_of s q) q.memory c).memory ≡ after.memory
  pub out : (rest : List C) → H.handed (state_of s q) q.memory (c ∷ rest) ≡ H.adding m (H.handed (state_of s after) after.memory rest)
  pub keeps : Kept (suc m) after

-- A reader over the first super frames: a refused call changes nothing and hands out nothing, and each that lends is such a turn.
pub record Goes {C O : Type 0} (r : Reader C) (s : Scheme) (F : ℕ → SuperFrame) (last : ℕ) (Kept : ℕ → Progress → Type 0) (H : Handing C O) : Type 0 where
  pub state : (state : State) (memory : List ℕ) (c : C) → reads r state memory c ≡ false → (r.yields state memory c).reading.state ≡ state
  pub memory : (state : State) (memory : List ℕ) (c : C) → reads r state memory c ≡ false → (r.yields state memory c).memory ≡ memory
  pub skips : (state : State) (memory : List ℕ) (c : C) (rest : List C) → reads r state memory c ≡ false
      → H.handed state memory (c ∷ rest) ≡ H.handed state memory rest
  pub turn : (m : ℕ) (q : Progress) (c : C) → m < last → Kept m q → Lends r s (F m) c → Turn r s Kept H m q c
  pub none : (state : State) (memory : List ℕ) (m : ℕ) → H.handed state memory [] ≡ H.between m 0
  pub more : (m j : ℕ) → H.adding m (H.between (suc m) j) ≡ H.between m (suc j)

-- A call that feeds lends the first super frame.
module _ {C : Type 0} (r : Reader C) (s : Scheme) (F : ℕ → SuperFrame) where
  feeds_some : (m : ℕ) (c : C) → Feeds r s (table F m 0) c → ⊥
  unfolding table
  feeds_some m c f = let u = f.unread in let z : ◌≡◌ {A = ℕ} 0 1 = cc in omega arith

  feeds_lends : (m n : ℕ) (c : C) → Feeds r s (table F m (suc n)) c → Lends r s (F m) c
  unfolding table
  feeds_lends m n c f =
      let u = f.unread in
      let e : f.frame ≡ F m = cc in
      record { fac = f.fac ∙ ap (λ x. x.fac) e; sdc = f.sdc ∙ ap (λ x. x.sdc) e; msc = f.msc ∙ ap (λ x. x.msc) e; roomy = f.roomy }

  lends_feeds : (m n : ℕ) (c : C) → Lends r s (F m) c → Feeds r s (table F m (suc n)) c
  unfolding table
  lends_feeds m n c l =
      record { frame = F m; rest = table F (suc m) n; unread = refl; fac = l.fac; sdc = l.sdc; msc = l.msc; roomy = l.roomy }

module _ {C O : Type 0} (r : Reader C) (s : Scheme) (F : ℕ → SuperFrame) (last : ℕ) (Kept : ℕ → Progress → Type 0) (H : Handing C O) (G : Goes r s F last Kept H) where
  -- A list of calls that is fed from super frame m on: those that feed are accepted, no more than there are super frames, and what is handed out is what these give.
  abbrev pub Back : ℕ → ℕ → Progress → List C → Type 0
  Back m n q calls =
      Accepts r (table F m n) (state_of s q) q.memory calls
      × (read_count r (state_of s q) q.memory calls ≤ n)
      × (H.handed (state_of s q) q.memory calls ≡ H.between m (read_count r (state_of s q) q.memory calls))

  back_none : (m n : ℕ) (q : Progress) → Back m n q []
  unfolding read_count
  back_none m n q = (tt, omega arith, G.none _ _ m)

  feeds_turn : (m n : ℕ) (q : Progress) (c : C) → m + n ≡ last → Kept m q → Feeds r s (table F m n) c → Turn r s Kept H m q c
  feeds_turn m zero q c h K f = absurd (feeds_some r s F m c f)
  feeds_turn m (suc n) q c h K f = G.turn m q c (omega arith) K (feeds_lends r s F m n c f)

  -- After an accepted call the next super frame is the first not yet read.
  taken-one : (m n : ℕ) (q : Progress) (c : C) → reads r (state_of s q) q.memory c ≡ true
      → unread_after r (table F m (suc n)) (state_of s q) q.memory c ≡ table F (suc m) n
  unfolding unread_after table
  taken-one m n q c h = rw h

  -- An accepted call before such a list.
  back_reads : (m n : ℕ) (q : Progress) (c : C) (rest : List C) (t : Turn r s Kept H m q c)
      → Back (suc m) n t.after rest → Back m (suc n) q (c ∷ rest)
  unfolding read_count
  back_reads m n q c rest t (a, few, out) = (
    (λ f. t.accepted, subst₃ (λ x y z. Accepts r x y z rest) (sym (taken-one m n q c t.accepted)) (sym t.state) (sym t.memory) a),
    rw (t.accepted, t.state, t.memory) (omega arith),
    t.out rest ∙ ap (H.adding m) out ∙ G.more m _ ∙ rw (t.accepted, t.state, t.memory),
  )

  -- A refused one.
  back_refuses : (m n : ℕ) (q : Progress) (c : C) (rest : List C) → reads r (state_of s q) q.memory c ≡ false
      → (Feeds r (state_of s q).scheme (table F m n) c → reads r (state_of s q) q.memory c ≡ true)
      → Back m n q rest → Back m n q (c ∷ rest)
  unfolding unread_after read_count
  back_refuses m n q c rest h first (a, few, out) =
      let st = G.state (state_of s q) q.memory c h in
      let me = G.memory (state_of s q) q.memory c h in
      ((first, rw (h, st, me) a), rw (h, st, me) few, G.skips _ _ c rest h ∙ out ∙ rw (h, st, me))

  -- A call that feeds or is refused, before a list of which that is known from each super frame on.
  back_call : (m n : ℕ) (q : Progress) (c : C) (rest : List C) → m + n ≡ last → Kept m q
      → ((m n : ℕ) (q : Progress) → m + n ≡ last → Kept m q → Fed r (table F m n) (state_of s q) q.memory rest → Back m n q rest)
      → Feeds r (state_of s q).scheme (table F m n) c ⊎ (reads r (state_of s q) q.memory c ≡ false)
      → Fed r (unread_after r (table F m n) (state_of s q) q.memory c) (r.yields (state_of s q) q.memory c).reading.state (r.yields (state_of s q) q.memory c).memory rest
      → Back m n q (c ∷ rest)
  unfolding state_of unread_after
  back_call m n q c rest h K ih (inr refused) f =
      back_refuses m n q c rest refused (λ x. (feeds_turn m n q c h K x).accepted)
      (ih m n q h K (rw (refused, G.state (state_of s q) q.memory c refused, G.memory (state_of s q) q.memory c refused) at f))
  back_call m zero q c rest h K ih (inl x) f = absurd (feeds_some r s F m c x)
  back_call m (suc n) q c rest h K ih (inl x) f =
      let t = feeds_turn m (suc n) q c h K x in
      back_reads m n q c rest t
      (ih (suc m) n t.after (omega arith) t.keeps (subst₃ (λ x y z. Fed r x y z rest) (taken-one m n q c t.accepted) t.state t.memory f))

  pub fed_runs : (calls : List C) (m n : ℕ) (q : Progress) → m + n ≡ last → Kept m q → Fed r (table F m n) (state_of s q) q.memory calls → Back m n q calls
  fed_runs [] m n q h K f = back_none m n q
  fed_runs (c ∷ rest) m n q h K (one, f) = back_call m n q c rest h K (fed_runs rest) one f

  -- Calls that lend one super frame after the other feed, and all are accepted.
  module _ (lend : SuperFrame → C) (lends : (m : ℕ) → m < last → Lends r s (F m) (lend (F m))) where
    pub feeds_all : (n m : ℕ) (q : Progress) → m + n ≡ last → Kept m q
        → Fed r (table F m n) (state_of s q) q.memory (map lend (table F m n)) × (read_count r (state_of s q) q.memory (map lend (table F m n)) ≡ n)
    unfolding table read_count state_of
    feeds_all zero m q h K = (tt, refl)
    feeds_all (suc n) m q h K =
        let t = G.turn m q (lend (F m)) (omega arith) K (lends m (omega arith)) in
        let ih = feeds_all n (suc m) t.after (omega arith) t.keeps in (
          (
            inl (lends_feeds r s F m n (lend (F m)) (lends m (omega arith))),
            subst₃ (λ x y z. Fed r x y z (map lend (table F (suc m) n))) (sym (taken-one m n q _ t.accepted)) (sym t.state) (sym t.memory) ih.0,
          ),
          rw (t.accepted, t.state, t.memory) (ap suc ih.1),
        )

-- The same of a reader from an accepted Reset.
module _ {C O : Type 0} (r : Reader C) (b : Begun) (F : ℕ → SuperFrame) (last : ℕ) (Kept : ℕ → Progress → Type 0) (H : Handing C O)
    (G : Goes r b.scheme F last Kept H) (start : Kept 0 (start_of b.scheme)) where
  pub begun_runs : (calls : List C) → Fed r (table F 0 last) (state_at b) (memory_at b) calls
      → Accepts r (table F 0 last) (state_at b) (memory_at b) calls
      × (read_count r (state_at b) (memory_at b) calls ≤ last)
      × (H.handed (state_at b) (memory_at b) calls ≡ H.between 0 (read_count r (state_at b) (memory_at b) calls))
  begun_runs calls f =
      let back = fed_runs r b.scheme F last Kept H G calls 0 last (start_of b.scheme) (zero-add _) start
      (subst₂ (λ st me. Fed r (table F 0 last) st me calls) (begun-state b) (begun_memory b) f) in (
        subst₂ (λ st me. Accepts r (table F 0 last) st me calls) (sym (begun-state b)) (sym (begun_memory b)) back.0,
        rw (begun-state b, begun_memory b) back.1,
        rw (begun-state b, begun_memory b) back.2,
      )

  module _ (lend : SuperFrame → C) (lends : (m : ℕ) → m < last → Lends r b.scheme (F m) (lend (F m))) where
    pub begun_all : Fed r (table F 0 last) (state_at b) (memory_at b) (map lend (table F 0 last)) × (read_count r (state_at b) (memory_at b) (map lend (table F 0 last)) ≡ last)
    begun_all =
        let all = feeds_all r b.scheme F last Kept H G lend lends last 0 (start_of b.scheme) (zero-add _) start in (
          subst₂ (λ st me. Fed r (table F 0 last) st me (map lend (table F 0 last))) (sym (begun-state b)) (sym (begun_memory b)) all.0,
          rw (begun-state b, begun_memory b) all.1,
        )
