-- What a check says: on its input there is something that keeps the call's promise, and whatever keeps it shows one thing. A check that says "then" starts from
-- what the check before gave.
use Rattle.std.specs.Prelude.{◌≡◌, List, [], ◌∷◌, ℕ, zero, suc}
use Rattle.fat_node.specs.Entry.{Bytes, u_at, v_at}

-- a call on a state: what it can give, what it promises of that, what is looked at, what has to be seen, and the state that the next call starts from
pub record Check (S : Type 0) : Type 1 where
  pub Given : Type 0
  pub promise : S → Given → Type 0
  pub seen : Given → List ℕ
  pub wanted : List ℕ
  pub after : S → Given → S

-- checks one after the other: something keeps the first one's promise, and whatever does shows what has to be seen and leaves a state on which the rest hold
abbrev pub Shows : {S : Type 0} → List (Check S) → S → Type 0
Shows [] s = Unit {0}
Shows (c ∷ cs) s =
    ((o : c.Given) × c.promise s o)
    × ((o : c.Given) → c.promise s o → (c.seen o ≡ c.wanted) × Shows cs (c.after s o))

-- checks with the state that the first one starts from
pub record History : Type 1 where
  pub State : Type 0
  pub start : State
  pub checks : List (Check State)

-- every history of a list shows what has to be seen
abbrev pub AllShow : List History → Type 0
AllShow [] = Unit {0}
AllShow (h ∷ hs) = Shows h.checks h.start × AllShow hs

-- u and v of k entries from entry e on
abbrev pub entries : ℕ → ℕ → Bytes → List ℕ
entries zero e t = []
entries (suc k) e t = u_at t e ∷ v_at t e ∷ entries k (suc e) t
