-- "What comes back when it can't be done": for each call the rows of the table that concern it, in their order, with what each
-- is given for in plain terms. (8 alone cites the definition of form: the bytes are the record of the state read out of them.)
use Rattle.std.specs.Prelude.{◌≡◌, ◌⊎◌, false, List, [], ◌∷◌, ◌++◌, ℕ, suc, ◌≤◌, ◌<◌, length, get_or}
use Rattle.model.specs.Plot.{cells}
use Rattle.model.specs.Lent.{Lent, buffers_of, scratch_buffers}
use Rattle.model.specs.Head.{cells_of, cells_named}
use Rattle.model.specs.Route.{next, route}
use Rattle.model.specs.Record.{record_length, head_of, read_into, sides_formed, formed}
use Rattle.model.specs.Controller.{own_room, state_in}
use Rattle.model.specs.declared.Head.{Head}
use Rattle.model.specs.declared.Reason.{Reason}
use Rattle.model.specs.declared.Reason.TheVariants.{Sides, Short, Outside, Unsound, OwnCell, NoRoute, Form}
use Rattle.model.specs.Fit.{Fit}
use Rattle.promises.specs.Asking.{Ask, layout, report, plan, move, list, question, save, load, report_c, plan_c, move_c}

-- Rows ------------------------------------------------------------------------------------------------------------------------------

-- one row, and those after it: the row's reason where it is given, and where it is not, what a later row gives
pub data Row (given : Type 0) (reason : Reason) (later : Reason → Type 0) : Reason → Type 0 where
  first : given → Row given reason later reason
  after : {why : Reason} → ¬ given → later why → Row given reason later why

-- no row is left: nothing is refused
pub data Done : Reason → Type 0 where

-- What each row is given for ----------------------------------------------------------------------------------------------------------

-- 1: "a side is 0 or above 64"
abbrev pub BadSide : ℕ → Type 0
BadSide side = (side ≡ 0) ⊎ (64 < side)

abbrev pub BadSides : (w h : ℕ) → Type 0
BadSides w h = BadSide w ⊎ BadSide h

-- some entry of a list is such that ..
pub data Some {A : Type 0} (P : A → Type 0) : List A → Type 0 where
  this : {x : A} {xs : List A} → P x → Some P (x ∷ xs)
  that : {x : A} {xs : List A} → Some P xs → Some P (x ∷ xs)

-- 2: "a lent buffer is shorter than N, a save buffer than the record, or a list buffer than the route"
abbrev pub ShorterThan : ℕ → List ℕ → Type 0
ShorterThan n buffer = length buffer < n

-- 3: "the goal, the cart's cell, the start or a reported cell is N or more"
abbrev pub OffPlot : ℕ → ℕ → Type 0
OffPlot n cell = n ≤ cell

-- 4: "the data is not sound", Fit being what soundness asks, rule by rule
abbrev pub Unfit : Head → Lent → Type 0
Unfit head p = ¬ Fit head.width head.height head.goal head.cell p

-- 6: "no route stands": "following links, the learned value falls by exactly 1 at each step until the goal is reached"
pub data RouteFrom (w h goal : ℕ) (p : Lent) : ℕ → Type 0 where
  there : RouteFrom w h goal p goal
  onward : {c : ℕ} → next w h p.link c < cells w h → get_or p.learned c 0 ≡ suc (get_or p.learned (next w h p.link c) 0)
      → RouteFrom w h goal p (next w h p.link c) → RouteFrom w h goal p c

abbrev pub Routeless : Head → Lent → Type 0
Routeless head p = ¬ RouteFrom head.width head.height head.goal p head.cell

-- The rows of each call -----------------------------------------------------------------------------------------------------------------

-- 1, 2, 3: the sides, the buffers, and the cells that are named
abbrev pub Sized : (w h : ℕ) (buffers : List (List ℕ)) (named : List ℕ) (later : Reason → Type 0) → Reason → Type 0
Sized w h buffers named later =
    Row (BadSides w h) Sides (Row (Some (ShorterThan (cells w h)) buffers) Short (Row (Some (OffPlot (cells w h)) named) Outside later))

-- and 4
abbrev pub Checked : Head → Lent → (buffers : List (List ℕ)) (named : List ℕ) (later : Reason → Type 0) → Reason → Type 0
Checked head p buffers named later = Sized head.width head.height buffers named (Row (Unfit head p) Unsound later)

-- "the list buffer's 2 comes after 6"
abbrev pub ListRows : Head → Lent → (buffer : List ℕ) → Reason → Type 0
ListRows head p buffer =
    Checked head p (buffers_of p) (cells_named head)
    (Row (Routeless head p) NoRoute (Row (ShorterThan (length (route head p)) buffer) Short Done))

-- "Load: 8 for the first two fields, 1, 8 for the rest, 3, 2, 4"
abbrev pub LoadRows : (bytes : List ℕ) → Lent → (later : Reason → Type 0) → Reason → Type 0
LoadRows bytes p later =
    let head = head_of bytes in
    let n = cells_of head in
    Row (sides_formed bytes ≡ false) Form
    (Row (BadSides head.width head.height) Sides
    (Row (formed bytes ≡ false) Form
    (Row (Some (OffPlot n) (cells_named head)) Outside
    (Row (Some (ShorterThan n) (buffers_of p)) Short
    (Row (Unfit head (read_into n bytes p)) Unsound later)))))

unfoldable pub Rows : Ask → Reason → Type 0
Rows (layout w h start goal p) = Sized w h (buffers_of p) (goal ∷ start ∷ []) Done
Rows (report head p c) = Checked head p (buffers_of p) (c ∷ cells_named head) (Row (c ≡ head.cell) OwnCell Done)
Rows (plan head p s) = Checked head p (scratch_buffers s ++ buffers_of p) (cells_named head) Done
Rows (move head p) = Checked head p (buffers_of p) (cells_named head) (Row (Routeless head p) NoRoute Done)
Rows (list head p buffer) = ListRows head p buffer
Rows (question head p buffer) = ListRows head p buffer
-- "the save buffer's after 4"
Rows (save head p buffer) = Checked head p (buffers_of p) (cells_named head) (Row (ShorterThan (record_length (cells_of head)) buffer) Short Done)
Rows (load bytes p) = LoadRows bytes p Done
-- "The checks are load's in load's order, then the call's own"
Rows (report_c bytes c) =
    LoadRows bytes own_room (Row (OffPlot (cells_of (head_of bytes)) c) Outside (Row (c ≡ (head_of bytes).cell) OwnCell Done))
Rows (plan_c bytes) = LoadRows bytes own_room Done
Rows (move_c bytes) = LoadRows bytes own_room (Row (Routeless (head_of bytes) (state_in bytes)) NoRoute Done)
