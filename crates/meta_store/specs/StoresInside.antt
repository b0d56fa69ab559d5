-- A store as its fields are.
use Rattle.meta_store.specs.Stores.{StoreState, IsStore}
use Rattle.meta_store.specs.declared.store.MetaStore.TheInside.{Inside}

-- what contracts see
abbrev pub store_in : {D : Type 0} → Inside D → StoreState D
store_in s = record { disk = s.disk; layout = s.layout; table = s.table }

-- its layout and table agree, and are within the limits
abbrev pub HoldsTogether : {D : Type 0} → Inside D → Type 0
HoldsTogether s = IsStore s.layout s.table
