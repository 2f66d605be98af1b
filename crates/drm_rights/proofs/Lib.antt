mod LeaseLemmas
mod LendingLemmas
mod LedgerLemmas
mod LeaseClientLemmas
