mod Words
mod CircuitCells
mod CounterCells
