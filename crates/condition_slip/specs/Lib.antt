pub mod ConditionSlip
