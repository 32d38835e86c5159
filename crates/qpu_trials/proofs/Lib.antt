pub mod OperationTrials
pub mod PackingTrials
pub mod WordTrials
pub mod ProgramTrials
pub mod TextTrials
