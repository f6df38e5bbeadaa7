-- A choice by a test: what every definition of the project goes by.
use Rattle.std.specs.Prelude.{Bool, true, false}

-- a where the test holds, else b
abbrev pub when {ℓ} : {A : Type ℓ} → Bool → A → A → A
when true a b = a
when false a b = b

-- both tests hold
abbrev pub both : Bool → Bool → Bool
both t u = when t u false

-- one of the tests holds
abbrev pub either : Bool → Bool → Bool
either t u = when t true u
